-- A store's measures: L rows of B bytes in P places (SPEC 2). Assumes nothing.
use Rattle.std.specs.Prelude.{ℕ, ◌*◌, ◌≤◌, List, [], ◌∷◌, take, drop}
use Rattle.measures.specs.declared.Size.{Size}

pub record Within (z : Size) : Type 0 where
  pub rows : (1 ≤ z.rows) × (z.rows ≤ 1024)
  pub width : (1 ≤ z.width) × (z.width ≤ 1024)
  pub places : (z.rows ≤ z.places) × (z.places ≤ 4096)

-- place p begins at byte p × B
abbrev pub begins_at : ℕ → ℕ → ℕ
begins_at width p = p * width

-- the bytes of place p
unfoldable pub bytes_at : ℕ → List ℕ → ℕ → List ℕ
bytes_at width places p = take width (drop (begins_at width p) places)

-- each of some rows with its bytes, which lie one after the other
unfoldable pub rows_with : ℕ → List ℕ → List ℕ → List (ℕ × List ℕ)
rows_with width [] bytes = []
rows_with width (r ∷ rows) bytes = (r, take width bytes) ∷ rows_with width rows (drop width bytes)
