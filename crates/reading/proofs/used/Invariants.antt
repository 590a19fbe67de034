-- `reading::used` meets its contract: the exceptions passed are counted. Assumes nothing.
use Prim.Native.Nat.{◌+◌, ◌≤◌}
use mathlib.Core.Path.{◌≡◌}
use Rattle.trees.specs.Trees.{entries_of, taken}
use Rattle.basics.specs.Count.{count}
use Rattle.reading.proofs.used.Given as goal

abbrev pub invariant-loop-n : goal.invariant-loop-n
invariant-loop-n l = (l.sum ≤ l.table.rows + l.n-index) × (l.sum ≡ l.table.rows + count (taken (entries_of l.table)) l.n-index)
