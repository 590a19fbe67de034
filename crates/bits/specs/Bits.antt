-- Sets of numbers as bits, eight to a byte. Definitions only. Assumes nothing.
use Rattle.std.specs.Prelude.{Bool, List, ℕ, ◌+◌, ◌/◌, ◌%◌, ◌^◌, eqb, set}
use Rattle.basics.specs.Decide.{at}

-- bit s of a byte
abbrev pub bit : ℕ → ℕ → ℕ
bit x s = (x / 2 ^ s) % 2

-- number k is in the set
unfoldable pub has : List ℕ → ℕ → Bool
has bits k = eqb (bit (at bits (k / 8)) (k % 8)) 1

-- the set that number k has joined
unfoldable pub joined : List ℕ → ℕ → List ℕ
joined bits k = set bits (k / 8) (at bits (k / 8) + 2 ^ (k % 8))
