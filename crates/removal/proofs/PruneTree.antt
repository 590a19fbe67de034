-- A tree without one of its ghosts, whose children hang under its parent: what its nodes and versions are, and rules 2 to 5. Assumes nothing.
use Rattle.std.specs.Prelude.{◌≡◌, refl, ◌≢◌, ◌⊎◌, false, not, ℕ, eqb}
use Rattle.std.proofs.Math.Path.{sym}
use Rattle.std.proofs.Common.{◌∙◌, ap, inl, inr, arith, eqb-true}
use Rattle.std.proofs.Math.Logic.{by_cases}
use Rattle.std.proofs.Math.Decide.{ℕ_discrete}
use Rattle.basics.specs.Decide.{at, and_no}
use Rattle.basics.proofs.CountLaws.{count_cong, first_same}
use Rattle.trees.specs.declared.Tree.{Tree}
use Rattle.trees.specs.Trees.{InUse, Alive, Ghost, Snapshot, up, Child, Reaches, is_snapshot, snapshots, is_version, version}
use Rattle.trees.specs.Rules.{States, Linked, Tagged}
use Rattle.tree.specs.Going.{reaches_ind, reaches_root, reaches_up}
use Rattle.tree.specs.Loops.{linked_reaches}
use Rattle.tree.specs.Nodes.{version_no}
use Rattle.edits.proofs.WriteReaders.{alive_used}
use Rattle.removal.proofs.Below.{ghost_used, ghost_off, ghost_parent}

-- a node that does not live is no snapshot
snapshot_no : (t : Tree) (n : ℕ) → at t.state n ≢ 1 → is_snapshot t n ≡ false
unfolding is_snapshot
snapshot_no t n h = and_no (not (eqb n 0)) (eqb (at t.state n) 1) (λ a b. h (eqb-true _ 1 b))

-- node n has two children
abbrev pub Forked : Tree → ℕ → Type 0
Forked t n = (c : ℕ) × (e : ℕ) × (c ≢ e) × Child t n c × Child t n e

-- t' is t with the ghost x empty, and its children under its parent
pub record Drops (t t' : Tree) (x : ℕ) : Type 0 where
  pub ghost : Ghost t x
  pub state : at t'.state x ≡ 0
  pub tag : at t'.tag x ≡ 0
  pub parent : up t' x ≡ 0
  pub states : (n : ℕ) → n ≢ x → at t'.state n ≡ at t.state n
  pub tags : (n : ℕ) → n ≢ x → at t'.tag n ≡ at t.tag n
  pub kept : (n : ℕ) → n ≢ x → (Child t x n → ⊥) → up t' n ≡ up t n
  pub over : (n : ℕ) → Child t x n → up t' n ≡ up t x

module _ {t t' : Tree} {x : ℕ} (d : Drops t t' x) where
  -- The nodes: those in use are the old ones but x, and the living are the same

  pub used_other : (n : ℕ) → InUse t' n → n ≢ x
  used_other n u h = u.1 (ap (at t'.state) h ∙ d.state)

  pub used_back : (n : ℕ) → InUse t' n → InUse t n
  used_back n u = (u.0, rw (d.states n (used_other n u)) at u.1)

  pub used_kept : (n : ℕ) → n ≢ x → InUse t n → InUse t' n
  used_kept n h u = (u.0, rw (d.states n h) u.1)

  pub alive_other : (n : ℕ) → Alive t n → n ≢ x
  alive_other n a h = omega (arith, ap (at t.state) h, a.1, d.ghost.1)

  pub alive_kept : (n : ℕ) → Alive t n → Alive t' n
  alive_kept n a = (a.0, d.states n (alive_other n a) ∙ a.1)

  pub ghost_other : (n : ℕ) → Ghost t' n → n ≢ x
  ghost_other n h = used_other n (h.0, omega (arith, h.1))

  pub ghost_back : (n : ℕ) → Ghost t' n → Ghost t n
  ghost_back n h = (h.0, sym (d.states n (ghost_other n h)) ∙ h.1)

  snapshot_other : (n : ℕ) → Snapshot t' n → n ≢ x
  snapshot_other n w = used_other n (alive_used t' n w.1)

  snapshot_back : (n : ℕ) → Snapshot t' n → Snapshot t n
  snapshot_back n w = (w.0, (w.1.0, sym (d.states n (snapshot_other n w)) ∙ w.1.1))

  pub child_kept : (n c : ℕ) → n ≢ x → c ≢ x → Child t n c → Child t' n c
  child_kept n c h k i = (i.0, used_kept c k i.1, d.kept c k (λ j. h (sym i.2 ∙ j.2)) ∙ i.2)

  -- Rule 2

  pub drop_states : States t → States t'
  drop_states s =
      let o : 0 ≢ x = λ h. ghost_off t s x d.ghost (sym h) in
      record {
        kinds = λ n l. by_cases (ℕ_discrete n x) (λ h. rw h (omega (arith, d.state))) (λ h. omega (arith, d.states n h, s.kinds n l));
        root = (d.states 0 o ∙ s.root.0, d.tags 0 o ∙ s.root.1, d.kept 0 o (λ c. c.0 refl) ∙ s.root.2);
        empty = λ n l e. by_cases (ℕ_discrete n x)
            (λ h. (rw h d.tag, rw h d.parent))
            (λ h.
            let y : at t.state n ≡ 0 = sym (d.states n h) ∙ e in
            (d.tags n h ∙ (s.empty n l y).0, d.kept n h (λ c. c.1.1 y) ∙ (s.empty n l y).1));
        ghost = λ n h. d.tags n (ghost_other n h) ∙ s.ghost n (ghost_back n h);
      }

  -- Rule 3: the way up is the old one, past x

  module _ (s : States t) (l : Linked t) where
    reaches_other : (n : ℕ) → InUse t n → n ≢ x → Reaches (up t') n
    reaches_other n u = (reaches_ind (up t) P (λ w. (λ h. reaches_root (up t'), λ h. absurd (ghost_off t s x d.ghost (sym h))))
        (λ k f q w. let p = q (l.parent k f w) in (
          λ h. by_cases (ℕ_discrete (up t k) x)
              (λ y. reaches_up (up t') k (rw (d.over k (f, w, y)) (p.1 y)))
              (λ y. reaches_up (up t') k (rw (d.kept k h (λ c. y c.2)) (p.0 y))),
          λ h. rw h at (p.0 (λ y. ghost_parent t s x d.ghost l (rw h at y))),
        )) n (linked_reaches t l n u) u).0
      where
        P : ℕ → Type 0
        P k = InUse t k → (k ≢ x → Reaches (up t') k) × (k ≡ x → Reaches (up t') (up t x))

    pub drop_linked : Linked t'
    drop_linked = record {
      parent = λ n f u. by_cases (ℕ_discrete (up t n) x)
          (λ y. rw (d.over n (f, used_back n u, y)) (used_kept (up t x) (ghost_parent t s x d.ghost l) (l.parent x (ghost_off t s x d.ghost) (ghost_used t s x d.ghost))))
          (λ y. rw (d.kept n (used_other n u) (λ c. y c.2)) (used_kept (up t n) y (l.parent n f (used_back n u))));
      reaches = λ n f u. reaches_other n (used_back n u) (used_other n u);
    }

  -- Rule 4, and the versions: x did not live, nor does it now

  dead : (n : ℕ) → n ≡ x → (at t.state n ≢ 1) × (at t'.state n ≢ 1)
  dead n h = (λ e. omega (arith, ap (at t.state) h, d.ghost.1), λ e. omega (arith, ap (at t'.state) h, d.state))

  drop_snapshots : snapshots t' ≡ snapshots t
  unfolding snapshots is_snapshot
  drop_snapshots = count_cong (is_snapshot t') (is_snapshot t) 128 (λ n l. by_cases (ℕ_discrete n x)
      (λ h. snapshot_no t' n (dead n h).1 ∙ sym (snapshot_no t n (dead n h).0))
      (λ h. rw (d.states n h)))

  pub drop_tagged : Tagged t → Tagged t'
  drop_tagged k = record {
    above = λ n w. rw (d.tags n (snapshot_other n w)) (k.above n (snapshot_back n w));
    different = λ n m w v e. k.different n m (snapshot_back n w) (snapshot_back m v) (sym (d.tags n (snapshot_other n w)) ∙ e ∙ d.tags m (snapshot_other m v));
    most = omega (arith, k.most, drop_snapshots);
  }

  pub drop_version : (u : ℕ) → version t' u ≡ version t u
  unfolding version is_version
  drop_version u = first_same (is_version t' u) (is_version t u) 128 (λ n l. by_cases (ℕ_discrete n x)
      (λ h. version_no t' u n (λ a e. (dead n h).1 a) ∙ sym (version_no t u n (λ a e. (dead n h).0 a)))
      (λ h. rw (d.states n h, d.tags n h)))

  -- Rule 5: of node 0, if x had at most one child; of a ghost that was not x's parent

  module _ (s : States t) where
    -- a child was one before, or was x's and has taken its place
    child_back : (n c : ℕ) → Child t' n c → Child t n c ⊎ (Child t x c × Child t n x)
    child_back n c i = let u = used_back c i.1 in by_cases (ℕ_discrete (up t c) x)
        (λ y. inr ((i.0, u, y), (ghost_off t s x d.ghost, ghost_used t s x d.ghost, sym (d.over c (i.0, u, y)) ∙ i.2)))
        (λ y. inl (i.0, u, sym (d.kept c (used_other c i.1) (λ j. y j.2)) ∙ i.2))

    pub drop_root : ((c e : ℕ) → Child t x c → Child t x e → c ≡ e) → ((c e : ℕ) → Child t 0 c → Child t 0 e → c ≡ e) → (c e : ℕ) → Child t' 0 c → Child t' 0 e → c ≡ e
    drop_root few only c e i j = go (child_back 0 c i) (child_back 0 e j)
      where
        go : Child t 0 c ⊎ (Child t x c × Child t 0 x) → Child t 0 e ⊎ (Child t x e × Child t 0 x) → c ≡ e
        go (inl a) (inl b) = only c e a b
        go (inl a) (inr b) = absurd (used_other c i.1 (only c x a b.1))
        go (inr a) (inl b) = absurd (used_other e j.1 (only e x b a.1))
        go (inr a) (inr b) = few c e a.0 b.0

  pub drop_ghost : (n : ℕ) → Ghost t' n → n ≢ up t x → Forked t n → Forked t' n
  drop_ghost n g h (c, e, k, i, j) =
      let o = ghost_other n g in
      (c, e, k, child_kept n c o (λ y. h (sym i.2 ∙ ap (up t) y)) i, child_kept n e o (λ y. h (sym j.2 ∙ ap (up t) y)) j)
