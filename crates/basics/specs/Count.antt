-- Counting and searching below a number. Definitions only; the laws are in CountLaws. Assumes nothing.
use Rattle.std.specs.Prelude.{Bool, true, false, ℕ, zero, suc, ◌+◌}
use Rattle.std.proofs.Math.Option.{Option, none, some}

-- f 0 + .. + f (n - 1)
unfoldable pub sum : (ℕ → ℕ) → ℕ → ℕ
sum f zero = 0
sum f (suc n) = sum f n + f n

unfoldable pub one : Bool → ℕ
one true = 1
one false = 0

-- how many numbers below n pass the test
unfoldable pub count : (ℕ → Bool) → ℕ → ℕ
count t n = sum (λ k. one (t k)) n

-- what was found before n, else n itself if it passes
abbrev pub found : Option ℕ → Bool → ℕ → Option ℕ
found (some k) b n = some k
found none true n = some n
found none false n = none

-- the least number below n that passes
unfoldable pub first : (ℕ → Bool) → ℕ → Option ℕ
first t zero = none
first t (suc n) = found (first t n) (t n) n
