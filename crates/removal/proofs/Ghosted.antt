-- A snapshot's node v, which alone reads nothing, becomes a ghost: the records stay sound but for v's children, every node reads
-- as before, v's tag is gone, and every other version stands where it stood. Assumes nothing.
use Rattle.std.specs.Prelude.{◌≡◌, ◌≢◌, ◌⊎◌, ℕ, ◌+◌, ◌<◌, length}
use Rattle.std.proofs.Common.{sym, ◌∙◌, inl, inr, arith}
use Rattle.std.proofs.Math.Logic.{by_cases}
use Rattle.std.proofs.Math.Option.{none, some}
use Rattle.std.proofs.Math.Decide.{ℕ_discrete}
use Rattle.basics.specs.Decide.{at}
use Rattle.records.specs.Records.{Records, table}
use Rattle.trees.specs.Trees.{Alive, Snapshot, version}
use Rattle.trees.specs.Reading.{place}
use Rattle.trees.specs.Rules.{Excepting, AllRead}
use Rattle.records.specs.Sound.{Sound}
use Rattle.tree.specs.Nodes.{version_alive}
use Rattle.reading.specs.Reads.{reads_place}
use Rattle.edits.specs.Edits.{with_tree, Whole}
use Rattle.edits.proofs.Solve.{one_version, version_node, version_nobody}
use Rattle.edits.proofs.WriteReaders.{alive_used, has_reader}
use Rattle.sharing.specs.Sharing.{SharedAt}
use Rattle.removal.specs.Removal.{Spare, ghosted, Nearly}
use Rattle.removal.proofs.GhostTree.{place_same, whole_same, tag_old, used_kept, alive_kept, alive_other, alive_back, ghost_back, child_kept, child_back, ghosted_states, ghosted_linked, ghosted_tagged}

module _ (z : Records) (w : Whole z.tree) (s : Sound z) (v : ℕ) (a : Snapshot z.tree v) (p : Spare z v) where
  pub ghosted_place : (n r : ℕ) → place (ghosted z.tree v) (table z) n r ≡ place z.tree (table z) n r
  ghosted_place n r = place_same z.tree v (table z) n r

  pub ghosted_whole : Whole (ghosted z.tree v)
  ghosted_whole = whole_same z.tree v w

  ghosted_excepting : Excepting (ghosted z.tree v) (table z)
  ghosted_excepting = record {
    free = s.excepting.free;
    named = λ i l x. let (u, r) = s.excepting.named i l x in (used_kept z.tree w v a (at z.node i) u, r);
    once = s.excepting.once;
  }

  -- an exception is read by a living version other than v
  other_reader : (i : ℕ) → i < length z.node → at z.node i ≢ 0 → (n : ℕ) × Alive z.tree n × (n ≢ v) × (place z.tree (table z) n (at z.row i) ≡ z.size.rows + i)
  other_reader i l x =
      let (n, (b, e)) = has_reader z s i l x in
      by_cases (ℕ_discrete n v)
      (λ d. spared (rw d at e) (p (at z.row i) (s.excepting.named i l x).1))
      (λ d. (n, b, d, e))
    where
      spared : place z.tree (table z) v (at z.row i) ≡ z.size.rows + i
          → (place z.tree (table z) v (at z.row i) < z.size.rows) ⊎ SharedAt z.tree (table z) v (at z.row i)
          → (n : ℕ) × Alive z.tree n × (n ≢ v) × (place z.tree (table z) n (at z.row i) ≡ z.size.rows + i)
      spared e (inl h) = absurd (omega arith)
      spared e (inr (n, b, d, h)) = (n, b, d, h ∙ e)

  ghosted_read : AllRead (ghosted z.tree v) (table z)
  ghosted_read i l x =
      let (n, b, d, e) = other_reader i l x in
      let c = alive_kept z.tree w v a n d b in (
        n,
        c,
        (reads_place (ghosted z.tree v) (ghosted_linked z.tree w v a s.linked) (table z) ghosted_excepting n (at z.row i) (z.size.rows + i) (alive_used (ghosted z.tree v) n c)).1
            (sym (ghosted_place n (at z.row i) ∙ e)),
      )

  pub ghosted_nearly : Nearly (with_tree z (ghosted z.tree v)) v
  ghosted_nearly = record {
    measured = record { within = s.measured.within; nodes = s.measured.nodes; rows = s.measured.rows };
    states = ghosted_states z.tree w v a s.states;
    linked = ghosted_linked z.tree w v a s.linked;
    tagged = ghosted_tagged z.tree w v a s.tagged;
    root = λ c d x y. s.branching.root c d (child_back z.tree w v a 0 c x) (child_back z.tree w v a 0 d y);
    ghost = λ n d g.
        let (b, c, e, x, y) = s.branching.ghost n (ghost_back z.tree w v a n d g) in
        (b, c, e, child_kept z.tree w v a n b x, child_kept z.tree w v a n c y);
    excepting = ghosted_excepting;
    all_read = ghosted_read;
  }

  -- Versions

  pub ghosted_other : (u n : ℕ) → version z.tree u ≡ some n → n ≢ v → version (ghosted z.tree v) u ≡ some n
  ghosted_other u n e d =
      let (b, x) = version_alive z.tree u n e in
      version_node (ghosted z.tree v) ghosted_nearly.states ghosted_nearly.tagged n u (alive_kept z.tree w v a n d b) (tag_old z.tree w v a n d ∙ x)

  -- a tag that no living node other than v had is nobody's
  tag_nobody : (u : ℕ) → ((n : ℕ) → n ≢ v → Alive z.tree n → at z.tree.tag n ≢ u) → version (ghosted z.tree v) u ≡ none
  tag_nobody u h = version_nobody (ghosted z.tree v) u
      (λ n b x. let d = alive_other z.tree w v a n b in h n d (alive_back z.tree w v a n b) (sym (tag_old z.tree w v a n d) ∙ x))

  pub ghosted_gone : version (ghosted z.tree v) (at z.tree.tag v) ≡ none
  ghosted_gone = tag_nobody (at z.tree.tag v) (λ n d b x. d (one_version z.tree s.states s.tagged n v b a.1 x))

  pub ghosted_none : (u : ℕ) → version z.tree u ≡ none → version (ghosted z.tree v) u ≡ none
  ghosted_none u e = tag_nobody u (λ n d b x.
      let y = version_node z.tree s.states s.tagged n u b x in
      let c : ◌≡◌ {A = ℕ} 0 1 = cc in
      omega arith)
