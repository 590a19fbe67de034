-- A row written to a place of the buffer, and where a part of it lies. Definitions only. Assumes nothing.
use Rattle.std.specs.Prelude.{◌≡◌, List, ◌++◌, ℕ, ◌+◌, ◌≤◌, ◌<◌, length, take, drop}
use Rattle.measures.specs.Measures.{begins_at}

-- the buffer with bs at place p, and all else as it was
unfoldable pub put_at : ℕ → List ℕ → ℕ → List ℕ → List ℕ
put_at width places p bs = take (begins_at width p) places ++ (bs ++ drop (begins_at width p + width) places)

-- place p lies inside the lent places
pub record Inside (places : List ℕ) (width p : ℕ) : Type 0 where
  pub narrow : width ≤ 1024
  pub low : p < 4096
  pub within : begins_at width p + width ≤ length places

-- where a slice lies: the memory that it is in, and how far into it
abbrev pub Spot : Type 0
Spot = ℕ × ℕ

-- a slice that begins `from` bytes into another, in the same memory
pub record Lies (whole : Spot) (from : ℕ) (part : Spot) : Type 0 where
  pub memory : part.0 ≡ whole.0
  pub offset : part.1 ≡ whole.1 + from
