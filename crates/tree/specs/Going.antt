-- Laws of going up: induction from node 0, and no path is longer than the nodes it can pass. Assumes nothing.
use Rattle.std.specs.Prelude.{◌≡◌, ◌≢◌, eqb}
use Rattle.std.proofs.Math.Path.{refl, ap}
use Rattle.std.proofs.Common.{sym, ◌∙◌, add-one, eqb-true}
use Rattle.std.proofs.Math.Logic.{by_cases}
use Rattle.std.proofs.Math.Option.{Option, none, some}
use Prim.Native.Nat.{ℕ, zero, suc, ◌+◌, ◌-◌, ◌≤◌, ◌<◌}
use Rattle.std.proofs.Math.Decide.{ℕ_discrete, dec_lt}
use native.Mathlib.Omega.{arith}
use Rattle.std.proofs.lemmas.Bool.{eqb-false}
use Rattle.basics.specs.Count.{first}
use Rattle.basics.proofs.CountLaws.{first_some, first_none, distinct_below}
use Rattle.trees.specs.Trees.{ancestor, Reaches}

module _ (f : ℕ → ℕ) where
  pub ancestor_zero : (n : ℕ) → ancestor f 0 n ≡ n
  unfolding ancestor
  ancestor_zero n = refl

  pub ancestor_up : (k n : ℕ) → ancestor f (k + 1) n ≡ ancestor f k (f n)
  unfolding ancestor
  ancestor_up k n = rw (add-one k)

  pub ancestor_more : (i j n : ℕ) → ancestor f (i + j) n ≡ ancestor f j (ancestor f i n)
  unfolding ancestor
  ancestor_more zero j n = ap (λ (k : ℕ). ancestor f k n) (let e : 0 + j ≡ j = omega arith in e)
  ancestor_more (suc i) j n = ap (λ (k : ℕ). ancestor f k n) (let e : suc i + j ≡ suc (i + j) = omega arith in e) ∙ ancestor_more i j (f n)

  pub ancestor_next : (k n : ℕ) → ancestor f (k + 1) n ≡ f (ancestor f k n)
  unfolding ancestor
  ancestor_next k n = ancestor_more k 1 n

  -- what holds at node 0, and at a node if at its parent, holds wherever going up reaches node 0
  pub reaches_ind : (P : ℕ → Type 0) → P 0 → ((n : ℕ) → n ≢ 0 → P (f n) → P n) → (n : ℕ) → Reaches f n → P n
  unfolding ancestor
  reaches_ind P z s n (k, e) = go k n e
    where
      go : (k n : ℕ) → ancestor f k n ≡ 0 → P n
      go zero n e = rw e z
      go (suc k) n e = by_cases (ℕ_discrete n 0) (λ h. rw h z) (λ h. s n h (go k (f n) e))

  pub reaches_root : Reaches f 0
  reaches_root = (0, ancestor_zero 0)

  pub reaches_up : (n : ℕ) → Reaches f (f n) → Reaches f n
  reaches_up n (k, e) = (k + 1, ancestor_up k n ∙ e)

  -- Q holds of the nodes that going up passes, and they lie below N
  module _ (N : ℕ) (Q : ℕ → Type 0) (low : (n : ℕ) → Q n → n < N) (closed : (n : ℕ) → n ≢ 0 → Q n → Q (f n)) where
    passes : (n k : ℕ) → Q n → ((j : ℕ) → j < k → ancestor f j n ≢ 0) → Q (ancestor f k n)
    unfolding ancestor
    passes n zero q h = q
    passes n (suc k) q h = passes (f n) k (closed n (h 0 (omega arith)) q) (λ j l. h (suc j) (omega arith))

    pub near : (n : ℕ) → Q n → Reaches f n → (k : ℕ) × (k < N) × (ancestor f k n ≡ 0)
    near n q (m, e) = go (first test (suc m)) refl
      where
        test : ℕ → mathlib.Core.Bool.Bool
        test j = eqb (ancestor f j n) 0

        go : (o : Option ℕ) → first test (suc m) ≡ o → (k : ℕ) × (k < N) × (ancestor f k n ≡ 0)
        go none p = absurd (eqb-false _ _ (first_none test (suc m) p m (omega arith)) e)
        go (some k) p =
            let s = first_some test (suc m) k p in
            let hit : ancestor f k n ≡ 0 = eqb-true _ _ s.passes in
            let off : (j : ℕ) → j < k → ancestor f j n ≢ 0 = λ j l. eqb-false _ _ (s.least j l) in
            let apart : (i j : ℕ) → i < j → j ≤ k → ancestor f i n ≢ ancestor f j n = λ i j l h x. off (i + (k - j)) (omega arith)
            (ancestor_more i (k - j) n ∙ ap (ancestor f (k - j)) x ∙ sym (ancestor_more j (k - j) n) ∙ ap (λ (d : ℕ). ancestor f d n) (let e : j + (k - j) ≡ k = omega arith in e) ∙ hit) in (
              k,
              distinct_below (λ i. ancestor f i n) (suc k) N
                  (λ i l. low _ (passes n i q (λ j h. off j (omega arith))))
                  (λ i j l h x. by_cases (ℕ_discrete i j) (λ d. d) (λ d. by_cases (dec_lt i j) (λ b. absurd (apart i j b (omega arith) x)) (λ b. absurd (apart j i (omega arith) (omega arith) (sym x))))),
              hit,
            )
