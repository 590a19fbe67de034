-- What is read after a node is split: the new node reads as the old one did, and the others as before. So with the versions. Assumes nothing.
use Rattle.std.specs.Prelude.{◌≡◌, ◌≢◌, true, ℕ, ◌+◌}
use Rattle.std.proofs.Math.Path.{refl}
use Rattle.std.proofs.Common.{sym, ◌∙◌, ap, inl, inr, arith}
use Rattle.std.proofs.Math.Logic.{ite, if_pos, if_neg, by_cases}
use Rattle.std.proofs.Math.Option.{Option, none, some}
use Rattle.std.proofs.Math.Decide.{ℕ_discrete}
use Rattle.basics.specs.Decide.{at}
use Rattle.records.specs.Records.{Records, table, lives, tag_place}
use Rattle.trees.specs.Trees.{InUse, Alive, up, version}
use Rattle.trees.specs.Reading.{Reads, entry, place}
use Rattle.trees.specs.Rules.{Excepting, AllRead}
use Rattle.records.specs.Sound.{Sound}
use Rattle.tree.specs.Nodes.{version_alive}
use Rattle.reading.specs.Reads.{entry_some, reads_place, place_root}
use Rattle.edits.specs.Edits.{split, with_tree}
use Rattle.edits.proofs.Solve.{Solves, place_solves, place_only, version_node, version_nobody, lives_node, version_lives, nobody_lives, tag_place_lem}
use Rattle.edits.proofs.WriteReaders.{alive_used, has_reader}
use Rattle.edits.proofs.Split.{Splits, used_apart, v_apart, m_off, tag_m, tag_old, up_m, up_old, used_old, used_back, alive_m, alive_old, alive_back}
use Rattle.edits.proofs.SplitRules.{split_linked, split_rules}

module _ (z : Records) (s : Sound z) (v c m : ℕ) (h : Splits z.tree v c m) where
  -- an empty node has no own row
  no_entry : (k : ℕ) → entry (table z) m k ≡ none
  no_entry k = go (entry (table z) m k) refl
    where
      go : (o : Option ℕ) → entry (table z) m k ≡ o → entry (table z) m k ≡ none
      go none e = e
      go (some j) e =
          let (l, n, r) = entry_some (table z) m k j e in
          absurd (used_apart z.tree v c m h (at z.node j) (s.excepting.named j l (λ x. m_off z.tree v c m h (sym n ∙ x))).0 n)

  -- the new readings
  parted : ℕ → ℕ → ℕ
  parted n k = ite (ℕ_discrete n m) (place z.tree (table z) v k) (place z.tree (table z) n k)

  parted_m : (k : ℕ) → parted m k ≡ place z.tree (table z) v k
  unfolding parted
  parted_m k = if_pos (ℕ_discrete m m) refl _ _

  parted_old : (n k : ℕ) → n ≢ m → parted n k ≡ place z.tree (table z) n k
  unfolding parted
  parted_old n k d = if_neg (ℕ_discrete n m) d _ _

  parted_solves : Solves (split z.tree v m) (table z) parted
  parted_solves = record {
    root = λ k. parted_old 0 k (λ e. m_off z.tree v c m h (sym e)) ∙ place_root z.tree s.linked (table z) k;
    step = λ n k f u. by_cases (ℕ_discrete n m)
        (λ e. rw e (parted_m k ∙ rw (no_entry k, up_m z.tree v c m h) (sym (parted_old v k (v_apart z.tree v c m h)))))
        (λ e.
        let w = used_back z.tree v c m h n e u in
        parted_old n k e ∙ (place_solves z.tree s.linked (table z)).step n k f w
        ∙ rw (up_old z.tree v c m h n e, parted_old (up z.tree n) k (used_apart z.tree v c m h (up z.tree n) (s.linked.parent n f w))));
  }

  -- so they are what the nodes read
  pub place_m : (k : ℕ) → place (split z.tree v m) (table z) m k ≡ place z.tree (table z) v k
  place_m k = place_only (split z.tree v m) (split_linked z.tree v c m h) (table z) parted parted_solves m k (alive_used (split z.tree v m) m (alive_m z.tree v c m h)) ∙ parted_m k

  pub place_old : (n k : ℕ) → InUse z.tree n → place (split z.tree v m) (table z) n k ≡ place z.tree (table z) n k
  place_old n k u = place_only (split z.tree v m) (split_linked z.tree v c m h) (table z) parted parted_solves n k (used_old z.tree v c m h n u) ∙ parted_old n k (used_apart z.tree v c m h n u)

  -- The records stay sound

  split_excepting : Excepting (split z.tree v m) (table z)
  split_excepting = record {
    free = s.excepting.free;
    named = λ j l f. let (u, r) = s.excepting.named j l f in (used_old z.tree v c m h (at z.node j) u, r);
    once = s.excepting.once;
  }

  -- what v read is read by m
  split_read : AllRead (split z.tree v m) (table z)
  split_read j l f =
      let (n, (a, p)) = has_reader z s j l f in
      by_cases (ℕ_discrete n v)
      (λ e. (m, alive_m z.tree v c m h, reads m (alive_m z.tree v c m h) (place_m (at z.row j) ∙ (rw e at p))))
      (λ e.
      let b = alive_old z.tree v c m h n e a in
      (n, b, reads n b (place_old n (at z.row j) (alive_used z.tree n a) ∙ p)))
    where
      reads : (n : ℕ) → Alive (split z.tree v m) n → place (split z.tree v m) (table z) n (at z.row j) ≡ z.size.rows + j → Reads (split z.tree v m) (table z) (at z.row j) (z.size.rows + j) n
      reads n a e = (reads_place (split z.tree v m) (split_linked z.tree v c m h) (table z) split_excepting n (at z.row j) (z.size.rows + j) (alive_used (split z.tree v m) n a)).1 (sym e)

  pub split_sound : Sound (with_tree z (split z.tree v m))
  split_sound = let t = split_rules z.tree v c m h in record {
    measured = record { within = s.measured.within; nodes = s.measured.nodes; rows = s.measured.rows };
    states = t.states;
    linked = t.linked;
    tagged = t.tagged;
    branching = t.branching;
    excepting = split_excepting;
    all_read = split_read;
  }

  -- Versions: the tag of v is found at m, every other where it was

  pub version_m : (g : ℕ) → version z.tree g ≡ some v → version (split z.tree v m) g ≡ some m
  version_m g e =
      let t = split_rules z.tree v c m h in
      version_node (split z.tree v m) t.states t.tagged m g (alive_m z.tree v c m h) (tag_m z.tree v c m h ∙ (version_alive z.tree g v e).1)

  version_old : (u n : ℕ) → version z.tree u ≡ some n → n ≢ v → version (split z.tree v m) u ≡ some n
  version_old u n e d =
      let t = split_rules z.tree v c m h in
      let (a, x) = version_alive z.tree u n e in
      version_node (split z.tree v m) t.states t.tagged n u (alive_old z.tree v c m h n d a) (tag_old z.tree v c m h n d (used_apart z.tree v c m h n (alive_used z.tree n a)) ∙ x)

  version_gone : (u : ℕ) → version z.tree u ≡ none → version (split z.tree v m) u ≡ none
  version_gone u e = version_nobody (split z.tree v m) u (λ n a x. elim (alive_back z.tree v c m h n a) [
    | inl y ↦ found v h.snapshot.1 (sym (tag_m z.tree v c m h) ∙ ap (at (split z.tree v m).tag) (sym y) ∙ x)
    | inr y ↦ found n y.2 (sym (tag_old z.tree v c m h n y.0 y.1) ∙ x)
  ])
    where
      found : (n : ℕ) → Alive z.tree n → at z.tree.tag n ≡ u → ⊥
      found n a x =
          let y = version_node z.tree s.states s.tagged n u a x in
          let w : ◌≡◌ {A = ℕ} 0 1 = cc in
          omega arith

  pub split_living : (u : ℕ) → lives (with_tree z (split z.tree v m)) u ≡ lives z u
  split_living u = go (version z.tree u) refl
    where
      go : (o : Option ℕ) → version z.tree u ≡ o → lives (with_tree z (split z.tree v m)) u ≡ lives z u
      go none e = nobody_lives (with_tree z (split z.tree v m)) u (version_gone u e) ∙ sym (nobody_lives z u e)
      go (some n) e = by_cases (ℕ_discrete n v)
          (λ x. version_lives (with_tree z (split z.tree v m)) u m (version_m u (e ∙ ap some x)))
          (λ x. version_lives (with_tree z (split z.tree v m)) u n (version_old u n e x))
          ∙ sym (version_lives z u n e)

  pub split_tag : (u r : ℕ) → lives z u ≡ true → tag_place (with_tree z (split z.tree v m)) u r ≡ tag_place z u r
  split_tag u r l =
      let (n, e, a, x) = lives_node z u l in
      by_cases (ℕ_discrete n v)
      (λ y. tag_place_lem (with_tree z (split z.tree v m)) u m r (version_m u (e ∙ ap some y)) ∙ place_m r ∙ ap (λ (k : ℕ). place z.tree (table z) k r) (sym y))
      (λ y. tag_place_lem (with_tree z (split z.tree v m)) u n r (version_old u n e y) ∙ place_old n r (alive_used z.tree n a))
      ∙ sym (tag_place_lem z u n r e)
