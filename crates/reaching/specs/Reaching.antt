-- Who reads a node's own row, with the nodes passed in order, each after its parent. Assumes nothing.
use Rattle.std.specs.Prelude.{◌≡◌, ◌≢◌, ◌⊎◌, Bool, true, false, List, ℕ, ◌+◌, ◌≤◌, ◌<◌, length, set, replicate}
use Rattle.std.proofs.Common.{sym, ◌∙◌, ap, inl, inr, ⊎_elim, arith, length-set, get_or-set_same, get_or-set_other}
use Rattle.std.proofs.Math.Logic.{by_cases}
use Rattle.std.proofs.lemmas.Bool.{false≢true}
use Rattle.std.proofs.lemmas.List.{length-replicate}
use Rattle.std.proofs.Math.Decide.{ℕ_discrete}
use Rattle.basics.specs.Decide.{at}
use Rattle.bits.specs.Bits.{has}
use Rattle.trees.specs.declared.Tree.{Tree}
use Rattle.trees.specs.Trees.{InUse, Alive, up}
use Rattle.trees.specs.Rules.{Linked}
use Rattle.table.specs.Rules.{slot, Meets, here, above}
use Rattle.asking.specs.Asking.{OthersMeet}
use Rattle.ordering.specs.Ordered.{Ordered, is_noted, none_noted}

-- a truth value for each node, true only where it meets node g at row r, and so for the first j of the order; none of these nodes is a living version's but v's, and the children of all stand before position far
pub record Reaching (t : Tree) (order end marks : List ℕ) (v g r : ℕ) (reach : List Bool) (far j : ℕ) : Type 0 where
  pub size : length reach ≡ 128
  pub most : j ≤ length order
  pub own : is_noted reach g ≡ true
  pub met : (n : ℕ) → is_noted reach n ≡ true → Meets t marks r g n
  pub all : (i : ℕ) → i < j → Meets t marks r g (at order i) → is_noted reach (at order i) ≡ true
  pub quiet : (n : ℕ) → is_noted reach n ≡ true → Alive t n → n ≢ v → ⊥
  pub bound : (n : ℕ) → is_noted reach n ≡ true → at end n ≤ far

module _ (t : Tree) (order end marks : List ℕ) (v g r : ℕ) (z : g ≢ 0) where
  -- node 0 meets no other
  root_none : Meets t marks r g 0 → ⊥
  root_none m = go m (let e : 0 ≡ 0 = omega arith in e)
    where
      go : {n : ℕ} → Meets t marks r g n → n ≡ 0 → ⊥
      go (here x) e = z (sym x ∙ e)
      go (above x y f d) e = y e

  pub reaching_first : g < 128 → (Alive t g → g ≢ v → ⊥) → Reaching t order end marks v g r (set (replicate 128 false) g true) (at end g) 0
  reaching_first l q = record {
    size = length-set {A = Bool} (replicate 128 false) g true ∙ length-replicate {A = Bool} 128 false;
    most = omega arith;
    own = new;
    met = λ n x. here (only n x);
    all = λ i b. absurd (omega arith);
    quiet = λ n x. rw (only n x) q;
    bound = λ n x. rw (only n x) (let e : at end g ≤ at end g = omega arith in e);
  }
    where
      new : is_noted (set (replicate 128 false) g true) g ≡ true
      new = get_or-set_same {A = Bool} (replicate 128 false) g true false (omega (arith, l, length-replicate {A = Bool} 128 false))

      only : (n : ℕ) → is_noted (set (replicate 128 false) g true) n ≡ true → n ≡ g
      only n x = by_cases (ℕ_discrete n g) (λ e. e) (λ e. absurd (false≢true (sym (none_noted n) ∙ sym (get_or-set_other {A = Bool} (replicate 128 false) g n true false e) ∙ x)))

  module _ (o : Ordered t order end) (reach : List Bool) (far j : ℕ) (l : j < length order) (h : Reaching t order end marks v g r reach far j) where
    -- the next node has a mark, or its parent does not meet g
    pub reaching_past : ((is_noted reach (up t (at order j)) ≡ true) × (has marks (slot (at order j) r) ≡ false) → ⊥) → Reaching t order end marks v g r reach far (j + 1)
    reaching_past q = record {
      size = h.size;
      most = omega arith;
      own = h.own;
      met = h.met;
      all = λ i b m. by_cases (ℕ_discrete i j) (λ e. rw e (go (rw e at m))) (λ e. h.all i (omega arith) m);
      quiet = h.quiet;
      bound = h.bound;
    }
      where
        parent : Meets t marks r g (up t (at order j)) → (up t (at order j) ≡ 0) ⊎ ((i : ℕ) × (i < j) × (at order i ≡ up t (at order j)) × (j < at end (up t (at order j)))) → is_noted reach (up t (at order j)) ≡ true
        parent d (inl x) = absurd (root_none (rw x at d))
        parent d (inr (i, b, x, y)) = rw x at (h.all i b (rw (← x) at d))

        go : Meets t marks r g (at order j) → is_noted reach (at order j) ≡ true
        go (here x) = rw x h.own
        go (above x y f d) = absurd (q (parent d (o.each j l).2, f))

    -- it has no mark, and its parent meets g
    pub reaching_met : is_noted reach (up t (at order j)) ≡ true → has marks (slot (at order j) r) ≡ false → Meets t marks r g (at order j)
    reaching_met e f = by_cases (ℕ_discrete (at order j) g) (λ x. here x) (λ x. above x (o.each j l).0 f (h.met _ e))

    pub reaching_next : is_noted reach (up t (at order j)) ≡ true → has marks (slot (at order j) r) ≡ false → (Alive t (at order j) → at order j ≢ v → ⊥)
        → (later : ℕ) → far ≤ later → at end (at order j) ≤ later → Reaching t order end marks v g r (set reach (at order j) true) later (j + 1)
    reaching_next e f q later a b = record {
      size = length-set reach (at order j) true ∙ h.size;
      most = omega arith;
      own = kept g h.own;
      met = λ n x. by_cases (ℕ_discrete n (at order j)) (λ y. rw y (reaching_met e f)) (λ y. h.met n (old n y x));
      all = λ i b m. by_cases (ℕ_discrete i j) (λ y. rw y new) (λ y. kept (at order i) (h.all i (omega arith) m));
      quiet = λ n x. by_cases (ℕ_discrete n (at order j)) (λ y. rw y q) (λ y. h.quiet n (old n y x));
      bound = λ n x. by_cases (ℕ_discrete n (at order j)) (λ y. rw y b) (λ y. omega (arith, a, h.bound n (old n y x)));
    }
      where
        new : is_noted (set reach (at order j) true) (at order j) ≡ true
        new = get_or-set_same reach (at order j) true false (omega (arith, h.size, (o.each j l).1))

        old : (n : ℕ) → n ≢ at order j → is_noted (set reach (at order j) true) n ≡ true → is_noted reach n ≡ true
        old n y x = sym (get_or-set_other reach (at order j) n true false y) ∙ x

        kept : (n : ℕ) → is_noted reach n ≡ true → is_noted (set reach (at order j) true) n ≡ true
        kept n x = by_cases (ℕ_discrete n (at order j)) (λ y. ap (is_noted (set reach (at order j) true)) y ∙ new) (λ y. get_or-set_other reach (at order j) n true false y ∙ x)

  -- with all nodes passed, or all that can follow, no other living version meets g
  pub reaching_none : Linked t → Ordered t order end → (reach : List Bool) (far j : ℕ) → Reaching t order end marks v g r reach far j → (far ≤ j) ⊎ (length order ≤ j) → OthersMeet t marks v g r → ⊥
  reaching_none k o reach far j h d (n, (a, x, m)) = h.quiet n (reached (a.0, λ y. omega (arith, a.1, y)) m) a x
    where
      -- a position whose node's parent meets g has been passed
      passed : (i : ℕ) → i < length order → i < far → i < j
      passed i l f = ⊎_elim (λ y. omega arith) (λ y. omega arith) d

      found : {n : ℕ} → n ≢ 0 → Meets t marks r g n → is_noted reach (up t n) ≡ true → up t n ≢ 0 → (i : ℕ) × (i < length order) × (at order i ≡ n) → is_noted reach n ≡ true
      found {n} y m e q (i, b, c) = go (o.each i b).2
        where
          go : (up t (at order i) ≡ 0) ⊎ ((k : ℕ) × (k < i) × (at order k ≡ up t (at order i)) × (i < at end (up t (at order i)))) → is_noted reach n ≡ true
          go (inl w) = absurd (q (rw c at w))
          go (inr (k, p, u, w)) = rw c at (h.all i (passed i b (let f = h.bound _ e in omega (arith, rw c at w, f))) (rw (← c) at m))

      reached : {n : ℕ} → InUse t n → Meets t marks r g n → is_noted reach n ≡ true
      reached u (here y) = rw y h.own
      reached u (above {n = n} y w f e) = found w (above y w f e) (reached (k.parent n w u) e) (λ q. root_none (rw q at e)) (o.all n w u)
