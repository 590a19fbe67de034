-- A row as bits: bit 0 is the highest of byte 0, bit 8 the highest of byte 1. Definitions only. Assumes nothing.
use Rattle.std.specs.Prelude.{List, [], ◌∷◌, ℕ, zero, suc, ◌+◌, ◌-◌, ◌*◌, ◌/◌, ◌%◌, ◌^◌, ◌<◌, set}
use Rattle.basics.specs.Decide.{at}
use Rattle.bits.specs.Bits.{bit}

-- bit n of a row, 0 or 1
unfoldable pub bit_of : List ℕ → ℕ → ℕ
bit_of row n = bit (at row (n / 8)) (7 - n % 8)

-- the number whose first k digits of base two are f 0, f 1 and so on, the highest first
unfoldable pub binary : (ℕ → ℕ) → ℕ → ℕ
binary f zero = 0
binary f (suc k) = binary f k * 2 + f k

-- the row of so many bytes whose bit i is f i
unfoldable pub row_of : ℕ → (ℕ → ℕ) → List ℕ
row_of zero f = []
row_of (suc n) f = binary f 8 ∷ row_of n (λ i. f (8 + i))

-- each number of a list is a byte
abbrev pub Bytes : List ℕ → Type 0
Bytes row = (i : ℕ) → at row i < 256

-- the row with b in bit n, where 0 was: the byte that has the bit, and the whole
abbrev pub byte_with : List ℕ → ℕ → ℕ → ℕ
byte_with row n b = at row (n / 8) + b * 2 ^ (7 - n % 8)

unfoldable pub put_bit : List ℕ → ℕ → ℕ → List ℕ
put_bit row n b = set row (n / 8) (byte_with row n b)
