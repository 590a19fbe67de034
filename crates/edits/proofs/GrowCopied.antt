-- Records whose tree has one living node more: rules 6 and 7, what its versions are, and what they read. Assumes nothing.
use Rattle.std.specs.Prelude.{◌≡◌, refl, ◌≢◌, false, ℕ, ◌+◌, ◌<◌}
use Rattle.std.proofs.Common.{sym, ◌∙◌, ap, inl, inr, arith, eq-eqb, ne_eqb}
use Rattle.std.proofs.Math.Logic.{ite, if_pos, if_neg, by_cases}
use Rattle.std.proofs.lemmas.Bool.{false≢true}
use Rattle.std.proofs.Math.Option.{Option, none, some}
use Rattle.std.proofs.Math.Decide.{ℕ_discrete}
use Rattle.basics.specs.Decide.{at}
use Rattle.trees.specs.declared.Tree.{Tree}
use Rattle.records.specs.Records.{Records, table, lives}
use Rattle.trees.specs.Trees.{InUse, Alive, up, Child, snapshots, version}
use Rattle.trees.specs.Reading.{entry, place}
use Rattle.trees.specs.Rules.{States, Linked, Tagged, Excepting, AllRead}
use Rattle.records.specs.Sound.{Sound}
use Rattle.tree.specs.Nodes.{version_alive}
use Rattle.reading.specs.Reads.{entry_some, reads_place, place_root}
use Rattle.edits.specs.Edits.{with_tree, Copied}
use Rattle.edits.proofs.Solve.{Solves, place_solves, place_only, version_node, version_nobody, lives_node, version_lives, tag_place_lem}
use Rattle.edits.proofs.Grow.{Grows, new_above, root_old, used_old, used_kept, used_new, used_back, alive_used, alive_old, alive_kept, alive_new, alive_back, grow_states, grow_linked, grow_tagged, grow_branching}

-- the node of the old tree that reads what node n of the new one is to read
unfoldable source : ℕ → ℕ → ℕ → ℕ
source m p n = ite (ℕ_discrete n m) p n

source_new : (m p n : ℕ) → n ≡ m → source m p n ≡ p
unfolding source
source_new m p n h = if_pos (ℕ_discrete n m) h p n

source_old : (m p n : ℕ) → n ≢ m → source m p n ≡ n
unfolding source
source_old m p n h = if_neg (ℕ_discrete n m) h p n

module _ (z : Records) (s : Sound z) (t' : Tree) (m g p : ℕ) (x : Grows z.tree t' m g p) (a : Alive z.tree p) where
  linked' : Linked t'
  linked' = grow_linked x s.linked a

  -- no entry names the new node
  unnamed : (r : ℕ) → entry (table z) m r ≡ none
  unnamed r = go (entry (table z) m r) refl
    where
      go : (o : Option ℕ) → entry (table z) m r ≡ o → entry (table z) m r ≡ none
      go none h = h
      go (some i) h =
          let (l, n, k) = entry_some (table z) m r i h in
          let u = (s.excepting.named i l (λ y. new_above x s.states (sym n ∙ y))).0 in
          absurd (used_old x _ u n)

  -- the parent's source is the old parent
  source_parent : (n : ℕ) → n ≢ 0 → n ≢ m → InUse z.tree n → source m p (up t' n) ≡ up z.tree n
  source_parent n h k u = elim (x.parents n k) [
    | inl y ↦ rw y (source_old m p (up z.tree n) (used_old x _ (s.linked.parent n h u)))
    | inr y ↦ source_new m p (up t' n) y.1 ∙ sym y.0.2
  ]

  source_solves : Solves t' (table z) (λ n r. place z.tree (table z) (source m p n) r)
  source_solves = record {
    root = λ r. rw (source_old m p 0 (root_old x s.states)) (place_root z.tree s.linked (table z) r);
    step = λ n r h u. by_cases (ℕ_discrete n m)
        (λ y. rw (y, source_new m p m refl, unnamed r, x.parent, source_old m p p (alive_old x p a)))
        (λ y. let v = used_back x n y u in rw (source_old m p n y, source_parent n h y v) ((place_solves z.tree s.linked (table z)).step n r h v));
  }

  -- the new node reads as p, and the others as before
  pub place_new : (r : ℕ) → place t' (table z) m r ≡ place z.tree (table z) p r
  place_new r = place_only t' linked' (table z) _ source_solves m r (used_new x) ∙ rw (source_new m p m refl)

  pub place_kept : (n r : ℕ) → InUse z.tree n → place t' (table z) n r ≡ place z.tree (table z) n r
  place_kept n r u = place_only t' linked' (table z) _ source_solves n r (used_kept x n u) ∙ rw (source_old m p n (used_old x n u))

  -- Rules 6 and 7

  excepting' : Excepting t' (table z)
  excepting' = record {
    free = s.excepting.free;
    named = λ i l h. let (u, k) = s.excepting.named i l h in (used_kept x _ u, k);
    once = s.excepting.once;
  }

  all_read' : AllRead t' (table z)
  all_read' i l h =
      let (n, b, d) = s.all_read i l h in
      let u = alive_used z.tree n b in
      let r = at z.row i in
      let q = z.size.rows + i in
      let k = (reads_place z.tree s.linked (table z) s.excepting n r q u).0 d in
      (n, alive_kept x n b, (reads_place t' linked' (table z) excepting' n r q (used_kept x n u)).1 (k ∙ sym (place_kept n r u)))

  -- Versions

  module _ (positive : 0 < g) (fresh : lives z g ≡ false) (room : snapshots z.tree < 64) where
    nobody : (n : ℕ) → Alive z.tree n → at z.tree.tag n ≢ g
    nobody n b h = false≢true (sym fresh ∙ version_lives z g n (version_node z.tree s.states s.tagged n g b h))

    states' : States t'
    states' = grow_states x s.states

    tagged' : Tagged t'
    tagged' = grow_tagged x s.states s.tagged positive nobody room

    version_new : version t' g ≡ some m
    version_new = version_node t' states' tagged' m g (alive_new x) x.tag

    version_kept : (u : ℕ) → u ≢ g → version t' u ≡ version z.tree u
    version_kept u h = go (version z.tree u) refl
      where
        missing : (n : ℕ) → version z.tree u ≡ none → version z.tree u ≡ some n → ⊥
        missing n p q = let o : ◌≡◌ {A = ℕ} 0 1 = cc in absurd (omega arith)

        go : (o : Option ℕ) → version z.tree u ≡ o → version t' u ≡ version z.tree u
        go none k = version_nobody t' u (λ n b y. by_cases (ℕ_discrete n m)
            (λ q. h (sym y ∙ ap (at t'.tag) q ∙ x.tag))
            (λ q. missing n k (version_node z.tree s.states s.tagged n u (alive_back x n q b) (sym (x.tags n q) ∙ y)))) ∙ sym k
        go (some n) k =
            let (b, y) = version_alive z.tree u n k in
            version_node t' states' tagged' n u (alive_kept x n b) (x.tags n (alive_old x n b) ∙ y) ∙ sym k

    lives_kept : (u : ℕ) → u ≢ g → lives (with_tree z t') u ≡ lives z u
    unfolding lives
    lives_kept u h = rw (version_kept u h)

    -- node 0's children are left to the caller, and p is the source
    pub grow_copied : ((c d : ℕ) → Child t' 0 c → Child t' 0 d → c ≡ d) → (u : ℕ) → version z.tree u ≡ some p → Copied z (with_tree z t') u g
    grow_copied only u h = record {
      sound = record {
        measured = record { within = s.measured.within; nodes = s.measured.nodes; rows = s.measured.rows };
        states = states';
        linked = linked';
        tagged = tagged';
        branching = grow_branching x s.branching a only;
        excepting = excepting';
        all_read = all_read';
      };
      living = λ v. by_cases (ℕ_discrete v g)
          (λ y. rw (eq-eqb v g y) (rw y (version_lives (with_tree z t') g m version_new)))
          (λ y. rw (ne_eqb v g y) (lives_kept v y));
      new = λ r. tag_place_lem (with_tree z t') g m r version_new ∙ place_new r ∙ sym (tag_place_lem z u p r h);
      old = λ v r l y.
          let (n, k, b, w) = lives_node z v l in
          tag_place_lem (with_tree z t') v n r (version_kept v y ∙ k) ∙ place_kept n r (alive_used z.tree n b) ∙ sym (tag_place_lem z v n r k);
    }
