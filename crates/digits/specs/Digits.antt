-- Numbers in base ten and bytes in base sixteen, as the codes of their digits (SPEC 9.2). Definitions only. Assumes nothing.
use Rattle.std.specs.Prelude.{cond, List, [], ◌∷◌, ◌++◌, ℕ, ◌+◌, ◌/◌, ◌%◌, ltb}
use Rattle.laying.specs.Laid.{twos}

-- the code of a digit below 16: 0 to 9, then a to f
unfoldable pub digit : ℕ → ℕ
digit d = cond (ltb d 10) (48 + d) (87 + d)

-- the digit of n that stands for p, none if n is below p
unfoldable pub place : ℕ → ℕ → List ℕ
place p n = cond (ltb n p) [] (digit (n / p % 10) ∷ [])

-- a number below 10,000 in base ten
unfoldable pub decimal : ℕ → List ℕ
decimal n = place 1000 n ++ (place 100 n ++ (place 10 n ++ (digit (n % 10) ∷ [])))

-- two digits of base sixteen for each byte
abbrev pub high_digit : ℕ → ℕ
high_digit b = digit (b / 16)

abbrev pub low_digit : ℕ → ℕ
low_digit b = digit (b % 16)

unfoldable pub hex : List ℕ → List ℕ
hex bs = twos high_digit low_digit bs
