-- Bytes that are laid into lent ones from a position on. Definitions only. Assumes nothing.
use Rattle.std.specs.Prelude.{◌≡◌, List, [], ◌∷◌, ◌++◌, ℕ, ◌+◌, ◌*◌, ◌/◌, ◌%◌, ◌≤◌, length, take, drop}
use Rattle.basics.specs.Decide.{at}

-- the bytes with others at a position, and all else as it was
unfoldable pub laid : List ℕ → ℕ → List ℕ → List ℕ
laid before at bytes = take at before ++ (bytes ++ drop (at + length bytes) before)

-- bytes were laid at a position, inside what was lent, and `to` is the position behind them
pub record Lays (before : List ℕ) (at : ℕ) (bytes after : List ℕ) (to : ℕ) : Type 0 where
  pub whole : after ≡ laid before at bytes
  pub size : length after ≡ length before
  pub ends : to ≡ at + length bytes
  pub inside : to ≤ length after

-- two bytes for each number of a list
unfoldable pub twos : (ℕ → ℕ) → (ℕ → ℕ) → List ℕ → List ℕ
twos f g [] = []
twos f g (x ∷ xs) = f x ∷ g x ∷ twos f g xs

-- 16-bit numbers, each as two bytes, the high one first

abbrev pub high_byte : ℕ → ℕ
high_byte x = x / 256

abbrev pub low_byte : ℕ → ℕ
low_byte x = x % 256

unfoldable pub pairs : List ℕ → List ℕ
pairs xs = twos high_byte low_byte xs

-- and back; a last byte that is alone is left out
unfoldable pub numbers : List ℕ → List ℕ
numbers [] = []
numbers (high ∷ []) = []
numbers (high ∷ low ∷ bytes) = (high * 256 + low) ∷ numbers bytes

-- the number that begins at p
abbrev pub pair_at : List ℕ → ℕ → ℕ
pair_at bytes p = at bytes p * 256 + at bytes (p + 1)
