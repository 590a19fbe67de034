-- The notes of a row: for each node the place that it has there, or none; and what going up by them gives. Definitions only. Assumes nothing.
use Rattle.std.specs.Prelude.{◌≡◌, ◌⊎◌, ◌&&◌, cond, List, ℕ, ◌+◌, ◌≤◌, ◌<◌, eqb, ltb, length, set}
use Rattle.std.proofs.Math.Option.{Option, none, some}
use Rattle.basics.specs.Decide.{at}
use Rattle.basics.specs.Count.{first}
use Rattle.trees.specs.declared.Tree.{Tree}
use Rattle.trees.specs.Trees.{Table}
use Rattle.trees.specs.Reading.{owns, entry, place}

-- what is noted of a node's own entry: one more than its place, and 0 where there is none
unfoldable pub note_of : ℕ → Option ℕ → ℕ
note_of rows (some i) = rows + i + 1
note_of rows none = 0

-- THE NOTES OF ROW r: at each of the 128 nodes that of its own entry
abbrev pub Noted : Table → ℕ → List ℕ → Type 0
Noted e r notes = (n : ℕ) → n < 128 → at notes n ≡ note_of e.rows (entry e n r)

-- p is the place from which node n reads row r, in every table whose notes of the row these are
abbrev pub Climbed : Tree → List ℕ → ℕ → ℕ → ℕ → Type 0
Climbed t notes n r p = (e : Table) → Noted e r notes → p ≡ place t e n r

-- Making them

-- the two halves of the table are as long, and the places few
abbrev pub Halved : ℕ → List ℕ → List ℕ → Type 0
Halved rows node row = (length row ≡ length node) × (rows + length node ≤ 4096)

-- the entries below i are noted
pub record Noting (e : Table) (r : ℕ) (notes : List ℕ) (i : ℕ) : Type 0 where
  pub most : i ≤ length e.node
  pub size : length notes ≡ 128
  pub told : (n : ℕ) → n < 128 → at notes n ≡ note_of e.rows (first (owns e n r) i)

-- entry i joins the notes at node n, unless that is no node or has one already
unfoldable pub joined : ℕ → ℕ → ℕ → List ℕ → List ℕ
joined rows i n notes = cond (ltb n 128 && eqb (at notes n) 0) (set notes n (note_of rows (some i))) notes

-- a stretch of the table from an entry on: 64 of them, or those that are left
pub record Stretch (from len to : ℕ) : Type 0 where
  pub some : from < to
  pub inside : to ≤ len
  pub most : (to ≡ from + 64) ⊎ ((to ≡ len) × (len < from + 64))
