-- A tree with one living node more: a leaf, or a node put between another and its children. What its nodes are, and that it keeps rules 2 to 5. Assumes nothing.
use Rattle.std.specs.Prelude.{◌≡◌, refl, ◌≢◌, ◌⊎◌, Bool, true, false, not, ℕ, zero, suc, ◌+◌, ◌<◌, eqb}
use Rattle.std.proofs.Common.{sym, ◌∙◌, ap, inl, inr, arith}
use Rattle.std.proofs.Math.Logic.{by_cases}
use Rattle.std.proofs.Math.Decide.{ℕ_discrete}
use borrow.Author.Tests.{eqb-true}
use Rattle.basics.specs.Decide.{at, and_no}
use Rattle.basics.specs.Count.{sum, one, count}
use Rattle.basics.proofs.CountLaws.{one_yes, one_no, count_cong}
use Rattle.trees.specs.declared.Tree.{Tree}
use Rattle.trees.specs.Trees.{InUse, Alive, Ghost, Snapshot, up, Child, Reaches, is_snapshot, snapshots}
use Rattle.trees.specs.Rules.{States, Linked, Tagged, Branching}
use Rattle.tree.specs.Going.{reaches_ind, reaches_root, reaches_up}
use Rattle.tree.specs.Nodes.{snapshot_yes}
use Rattle.tree.specs.Loops.{linked_reaches}
use Rattle.edits.specs.Edits.{EmptyNode}

-- one number more passes
pub count_more : (t u : ℕ → Bool) (n k : ℕ) → k < n → t k ≡ false → u k ≡ true → ((j : ℕ) → j ≢ k → u j ≡ t j) → count u n ≡ count t n + 1
unfolding count sum
count_more t u zero k l a b h = absurd (omega arith)
count_more t u (suc n) k l a b h = by_cases (ℕ_discrete k n)
    (λ e. omega (arith, count_cong u t n (λ j i. h j (omega arith)), one_yes (rw e at b), one_no (rw e at a)))
    (λ e. omega (arith, count_more t u n k (omega arith) a b h, ap one (h n (omega arith))))

pub alive_used : (t : Tree) (n : ℕ) → Alive t n → InUse t n
alive_used t n a = (a.0, omega (arith, a.1))

-- t' is t with a new living node m, with tag g, under node p; children of p may now hang under m, and all else is as before
pub record Grows (t t' : Tree) (m g p : ℕ) : Type 0 where
  pub empty : EmptyNode t m
  pub state : at t'.state m ≡ 1
  pub tag : at t'.tag m ≡ g
  pub parent : up t' m ≡ p
  pub states : (n : ℕ) → n ≢ m → at t'.state n ≡ at t.state n
  pub tags : (n : ℕ) → n ≢ m → at t'.tag n ≡ at t.tag n
  pub parents : (n : ℕ) → n ≢ m → (up t' n ≡ up t n) ⊎ (Child t p n × (up t' n ≡ m))

module _ {t t' : Tree} {m g p : ℕ} (x : Grows t t' m g p) where
  -- The nodes

  pub used_old : (n : ℕ) → InUse t n → n ≢ m
  used_old n u h = u.1 (rw h x.empty.1)

  pub used_kept : (n : ℕ) → InUse t n → InUse t' n
  used_kept n u = (u.0, rw (x.states n (used_old n u)) u.1)

  pub used_new : InUse t' m
  used_new = (x.empty.0, omega (arith, x.state))

  pub used_back : (n : ℕ) → n ≢ m → InUse t' n → InUse t n
  used_back n h u = (u.0, rw (x.states n h) at u.1)

  pub alive_old : (n : ℕ) → Alive t n → n ≢ m
  alive_old n a = used_old n (alive_used t n a)

  pub alive_kept : (n : ℕ) → Alive t n → Alive t' n
  alive_kept n a = (a.0, x.states n (alive_old n a) ∙ a.1)

  pub alive_new : Alive t' m
  alive_new = (x.empty.0, x.state)

  pub alive_back : (n : ℕ) → n ≢ m → Alive t' n → Alive t n
  alive_back n h a = (a.0, sym (x.states n h) ∙ a.1)

  snapshot_back : (n : ℕ) → n ≢ m → Snapshot t' n → Snapshot t n
  snapshot_back n h w = (w.0, alive_back n h w.1)

  ghost_other : (n : ℕ) → Ghost t' n → n ≢ m
  ghost_other n h y = omega (arith, ap (at t'.state) y, x.state, h.1)

  ghost_back : (n : ℕ) → Ghost t' n → Ghost t n
  ghost_back n h = (h.0, sym (x.states n (ghost_other n h)) ∙ h.1)

  pub child_back : (n c : ℕ) → n ≢ m → c ≢ m → Child t' n c → Child t n c
  child_back n c h k i = (i.0, used_back c k i.1, elim (x.parents c k) [ inl y ↦ sym y ∙ i.2 | inr y ↦ absurd (h (sym i.2 ∙ y.1)) ])

  child_kept : (n c : ℕ) → n ≢ p → Child t n c → Child t' n c
  child_kept n c h i = (i.0, used_kept c i.1, elim (x.parents c (used_old c i.1)) [ inl y ↦ y ∙ i.2 | inr y ↦ absurd (h (sym i.2 ∙ y.0.2)) ])

  -- Rule 2

  module _ (s : States t) where
    pub new_above : m ≢ 0
    new_above h = omega (arith, ap (at t.state) h, x.empty.1, s.root.0)

    pub root_old : 0 ≢ m
    root_old h = new_above (sym h)

    pub grow_states : States t'
    grow_states = record {
      kinds = λ n l. by_cases (ℕ_discrete n m) (λ h. rw h (omega (arith, x.state))) (λ h. omega (arith, x.states n h, s.kinds n l));
      root = (x.states 0 root_old ∙ s.root.0, x.tags 0 root_old ∙ s.root.1, kept 0 root_old (λ c. c.0 refl) ∙ s.root.2);
      empty = λ n l h.
          let k : n ≢ m = λ y. omega (arith, ap (at t'.state) y, x.state) in
          let o : at t.state n ≡ 0 = sym (x.states n k) ∙ h in
          (x.tags n k ∙ (s.empty n l o).0, kept n k (λ c. c.1.1 o) ∙ (s.empty n l o).1);
      ghost = λ n h. x.tags n (ghost_other n h) ∙ s.ghost n (ghost_back n h);
    }
      where
        kept : (n : ℕ) → n ≢ m → (Child t p n → ⊥) → up t' n ≡ up t n
        kept n h c = elim (x.parents n h) [ inl y ↦ y | inr y ↦ absurd (c y.0) ]

  -- Rule 3

  module _ (l : Linked t) (a : Alive t p) where
    kept_reaches : (n : ℕ) → InUse t n → Reaches (up t') n
    kept_reaches n u = reaches_ind (up t) (λ k. InUse t k → Reaches (up t') k)
        (λ v. reaches_root (up t'))
        (λ k h r v. reaches_up (up t') k (elim (x.parents k (used_old k v)) [
          | inl y ↦ rw y (r (l.parent k h v))
          | inr y ↦ rw y.1 (reaches_up (up t') m (rw x.parent (rw y.0.2 at (r (l.parent k h v)))))
        ]))
        n (linked_reaches t l n u) u

    pub grow_linked : Linked t'
    grow_linked = record {
      parent = λ n h u. by_cases (ℕ_discrete n m)
          (λ y. rw (y, x.parent) (used_kept p (alive_used t p a)))
          (λ y. elim (x.parents n y) [ inl w ↦ rw w (used_kept (up t n) (l.parent n h (used_back n y u))) | inr w ↦ rw w.1 used_new ]);
      reaches = λ n h u. by_cases (ℕ_discrete n m)
          (λ y. rw y (reaches_up (up t') m (rw x.parent (kept_reaches p (alive_used t p a)))))
          (λ y. kept_reaches n (used_back n y u));
    }

  -- Rule 4: nobody alive has the new tag

  grow_snapshots : m ≢ 0 → snapshots t' ≡ snapshots t + 1
  unfolding snapshots is_snapshot
  grow_snapshots h = count_more (is_snapshot t) (is_snapshot t') 128 m x.empty.0
      (and_no (not (eqb m 0)) (eqb (at t.state m) 1) (λ a b. omega (arith, eqb-true (at t.state m) 1 b, x.empty.1)))
      (snapshot_yes t' m (h, alive_new))
      (λ j k. rw (x.states j k))

  module _ (s : States t) (k : Tagged t) (positive : 0 < g) (nobody : (n : ℕ) → Alive t n → at t.tag n ≢ g) (room : snapshots t < 64) where
    new_tag : (n : ℕ) → Snapshot t' n → at t'.tag n ≡ g → n ≡ m
    new_tag n w h = by_cases (ℕ_discrete n m) (λ y. y) (λ y. absurd (nobody n (alive_back n y w.1) (sym (x.tags n y) ∙ h)))

    pub grow_tagged : Tagged t'
    grow_tagged = record {
      above = λ n w. by_cases (ℕ_discrete n m) (λ y. rw (y, x.tag) positive) (λ y. rw (x.tags n y) (k.above n (snapshot_back n y w)));
      different = λ n j w v h. by_cases (ℕ_discrete n m)
          (λ y. y ∙ sym (new_tag j v (sym h ∙ ap (at t'.tag) y ∙ x.tag)))
          (λ y. by_cases (ℕ_discrete j m)
          (λ q. absurd (y (new_tag n w (h ∙ ap (at t'.tag) q ∙ x.tag))))
          (λ q. k.different n j (snapshot_back n y w) (snapshot_back j q v) (sym (x.tags n y) ∙ h ∙ x.tags j q)));
      most = omega (arith, grow_snapshots (new_above s));
    }

  -- Rule 5: a ghost is not p, and so keeps its children

  pub grow_branching : Branching t → Alive t p → ((c d : ℕ) → Child t' 0 c → Child t' 0 d → c ≡ d) → Branching t'
  grow_branching b a only = record {
    root = only;
    ghost = λ n h.
        let q : n ≢ p = λ y. omega (arith, ap (at t.state) y, a.1, (ghost_back n h).1) in
        let (c, d, y, i, j) = b.ghost n (ghost_back n h) in
        (c, d, y, child_kept n c q i, child_kept n d q j);
  }
