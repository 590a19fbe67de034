-- The calls on an open store (SPEC 7): those that do one thing, and a border. Assumes nothing.
use Rattle.std.specs.Prelude.{List, ℕ}

pub data Single : Type 0 where
  -- of the version with the first tag, under the second
  snapshot : ℕ → ℕ → Single
  -- a tag, a row
  read : ℕ → ℕ → Single
  -- a tag, a row, the row's bytes
  write : ℕ → ℕ → List ℕ → Single
  delete : ℕ → Single
  count : Single

pub data Call : Type 0 where
  one : Single → Call
  -- a tag, row numbers, and the rows' bytes one after the other
  border : ℕ → List ℕ → List ℕ → Call
