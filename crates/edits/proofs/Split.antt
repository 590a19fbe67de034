-- Splitting a snapshot's node v, which has a child: it becomes a ghost, and a new child m gets its tag. The tree, node by node. Assumes nothing.
use Rattle.std.specs.Prelude.{◌≡◌, ◌≢◌, ◌⊎◌, ℕ, set}
use Rattle.std.proofs.Common.{sym, ◌∙◌, ap, inl, inr, arith, length-set, get_or-set_same, get_or-set_other}
use Rattle.std.proofs.Math.Logic.{by_cases}
use Rattle.std.proofs.Math.Decide.{ℕ_discrete}
use Rattle.basics.specs.Decide.{at}
use Rattle.trees.specs.declared.Tree.{Tree}
use Rattle.trees.specs.Trees.{InUse, Alive, Snapshot, up, Child}
use Rattle.tree.specs.Rules.{TreeSound}
use Rattle.edits.specs.Edits.{split, Whole, EmptyNode}

-- v is a snapshot with a child c, and node m is empty
pub record Splits (t : Tree) (v c m : ℕ) : Type 0 where
  pub whole : Whole t
  pub rules : TreeSound t
  pub snapshot : Snapshot t v
  pub child : Child t v c
  pub empty : EmptyNode t m

module _ (t : Tree) (v c m : ℕ) (h : Splits t v c m) where
  -- no node in use is m, and m is not node 0

  pub used_apart : (n : ℕ) → InUse t n → n ≢ m
  used_apart n u e = u.1 (ap (at t.state) e ∙ h.empty.1)

  pub used_v : InUse t v
  used_v = (h.snapshot.1.0, omega (arith, h.snapshot.1.1))

  pub v_apart : v ≢ m
  v_apart = used_apart v used_v

  pub m_off : m ≢ 0
  m_off e = omega (arith, ap (at t.state) e, h.empty.1, h.rules.states.root.0)

  -- the three arrays

  pub state_v : at (split t v m).state v ≡ 2
  state_v = get_or-set_other (set t.state v 2) m v 1 0 v_apart ∙ get_or-set_same t.state v 2 0 (omega (arith, h.whole.state, h.snapshot.1.0))

  pub state_m : at (split t v m).state m ≡ 1
  state_m = get_or-set_same (set t.state v 2) m 1 0 (omega (arith, h.empty.0, h.whole.state, length-set t.state v 2))

  pub state_old : (n : ℕ) → n ≢ v → n ≢ m → at (split t v m).state n ≡ at t.state n
  state_old n x y = get_or-set_other (set t.state v 2) m n 1 0 y ∙ get_or-set_other t.state v n 2 0 x

  pub tag_v : at (split t v m).tag v ≡ 0
  tag_v = get_or-set_other (set t.tag v 0) m v (at t.tag v) 0 v_apart ∙ get_or-set_same t.tag v 0 0 (omega (arith, h.whole.tag, h.snapshot.1.0))

  pub tag_m : at (split t v m).tag m ≡ at t.tag v
  tag_m = get_or-set_same (set t.tag v 0) m (at t.tag v) 0 (omega (arith, h.empty.0, h.whole.tag, length-set t.tag v 0))

  pub tag_old : (n : ℕ) → n ≢ v → n ≢ m → at (split t v m).tag n ≡ at t.tag n
  tag_old n x y = get_or-set_other (set t.tag v 0) m n (at t.tag v) 0 y ∙ get_or-set_other t.tag v n 0 0 x

  pub up_m : up (split t v m) m ≡ v
  up_m = get_or-set_same t.parent m v 0 (omega (arith, h.empty.0, h.whole.parent))

  pub up_old : (n : ℕ) → n ≢ m → up (split t v m) n ≡ up t n
  up_old n x = get_or-set_other t.parent m n v 0 x

  -- what holds at v, at m and at every other node holds at all
  pub each : (P : ℕ → Type 0) → P v → P m → ((n : ℕ) → n ≢ v → n ≢ m → P n) → (n : ℕ) → P n
  each P a b o n = by_cases (ℕ_discrete n v) (λ x. rw x a) (λ x. by_cases (ℕ_discrete n m) (λ y. rw y b) (λ y. o n x y))

  -- who is in use, lives and is whose child

  pub used_old : (n : ℕ) → InUse t n → InUse (split t v m) n
  used_old n u = (
    u.0,
    each (λ k. at t.state k ≢ 0 → at (split t v m).state k ≢ 0)
        (λ x y. omega (arith, state_v)) (λ x y. omega (arith, state_m)) (λ k a b x y. x (sym (state_old k a b) ∙ y)) n u.1,
  )

  pub used_back : (n : ℕ) → n ≢ m → InUse (split t v m) n → InUse t n
  used_back n d u = by_cases (ℕ_discrete n v) (λ x. rw x used_v) (λ x. (u.0, λ y. u.1 (state_old n x d ∙ y)))

  pub alive_m : Alive (split t v m) m
  alive_m = (h.empty.0, state_m)

  pub alive_old : (n : ℕ) → n ≢ v → Alive t n → Alive (split t v m) n
  alive_old n d a = (a.0, state_old n d (used_apart n (a.0, omega (arith, a.1))) ∙ a.1)

  -- the living are m and the old ones but v
  pub alive_back : (n : ℕ) → Alive (split t v m) n → (n ≡ m) ⊎ ((n ≢ v) × (n ≢ m) × Alive t n)
  alive_back n a = by_cases (ℕ_discrete n m) (λ x. inl x)
      (λ x. let y : n ≢ v = λ e. omega (arith, ap (at (split t v m).state) e, state_v, a.1) in inr (y, x, (a.0, sym (state_old n y x) ∙ a.1)))

  pub child_old : (p k : ℕ) → Child t p k → Child (split t v m) p k
  child_old p k x = (x.0, used_old k x.1, up_old k (used_apart k x.1) ∙ x.2)

  pub child_back : (p k : ℕ) → k ≢ m → Child (split t v m) p k → Child t p k
  child_back p k d x = (x.0, used_back k d x.1, sym (up_old k d) ∙ x.2)

  pub child_m : Child (split t v m) v m
  child_m = (m_off, (h.empty.0, λ e. omega (arith, state_m)), up_m)

  pub leaf_m : (k : ℕ) → Child (split t v m) m k → ⊥
  leaf_m k x = by_cases (ℕ_discrete k m)
      (λ y. v_apart (sym up_m ∙ ap (up (split t v m)) (sym y) ∙ x.2))
      (λ y. let b = child_back m k y x in used_apart (up t k) (h.rules.linked.parent k b.0 b.1) b.2)
