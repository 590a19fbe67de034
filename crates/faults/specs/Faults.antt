-- A count of the numbers below n that break a rule, as far as it matters: whether any does. Assumes nothing.
use Rattle.std.specs.Prelude.{◌≡◌, refl, ◌≢◌, Bool, true, false, ℕ, ◌+◌, ◌≤◌, ◌<◌, eqb}
use Rattle.std.proofs.Common.{arith, below_more, eqb-true}
use Rattle.std.proofs.lemmas.Bool.{eqb-false}
use Rattle.basics.specs.Decide.{Decides}

-- every number below n keeps the rule
abbrev pub Below : (ℕ → Type 0) → ℕ → Type 0
Below P n = (k : ℕ) → k < n → P k

pub record Faults (P : ℕ → Type 0) (n w : ℕ) : Type 0 where
  pub most : w ≤ n
  pub none : w ≡ 0 → Below P n
  pub some : w ≢ 0 → Below P n → ⊥

module _ {P : ℕ → Type 0} where
  pub faults_first : Faults P 0 0
  faults_first = record { most = omega arith; none = λ e k l. absurd (omega arith); some = λ e. absurd (e refl) }

  -- number n keeps the rule, or breaks it
  pub faults_kept : {n w : ℕ} → P n → Faults P n w → Faults P (n + 1) w
  faults_kept p f = record { most = omega (arith, f.most); none = λ e. below_more _ _ (f.none e) p; some = λ e h. f.some e (λ k l. h k (omega arith)) }

  pub faults_broken : {n w : ℕ} → (P n → ⊥) → Faults P n w → Faults P (n + 1) (w + 1)
  faults_broken {n} p f = record { most = omega (arith, f.most); none = λ e. absurd (omega arith); some = λ e h. p (h n (omega arith)) }

  -- the test of the count
  pub faults_all : {n w : ℕ} → Faults P n w → Decides (eqb w 0) (Below P n)
  faults_all {n} {w} f = go (eqb w 0) refl
    where
      go : (b : Bool) → eqb w 0 ≡ b → Decides b (Below P n)
      go true e = f.none (eqb-true w 0 e)
      go false e = f.some (eqb-false w 0 e)
