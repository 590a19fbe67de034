-- `noting::notes` meets its contract: stretch after stretch of the table is noted, or has none of the row. Assumes nothing.
use Prim.Native.Nat.{ℕ, ◌*◌, ◌≤◌}
use mathlib.Core.Path.{◌≡◌}
use mathlib.Core.Logic.{◌⊎◌}
use lib.ListN.{length}
use Rattle.trees.specs.Trees.{table_of}
use Rattle.notes.specs.Notes.{Noting}
use Rattle.noting.proofs.notes.Given as goal

-- up to the end of a stretch, or of the table
abbrev pub invariant-loop-k : goal.invariant-loop-k
invariant-loop-k l = (i : ℕ) × (i ≤ 64 * l.k) × ((i ≡ 64 * l.k) ⊎ (i ≡ length l.node)) × Noting (table_of l.rows l.node l.row) l.key l.notes i
