-- `entering::entries` meets its contract: the entries passed fit and have their marks. Assumes nothing.
use Prim.Native.Nat.{ℕ, ◌≤◌, ◌<◌}
use mathlib.Core.Path.{◌≡◌}
use lib.ListN.{length}
use Rattle.trees.specs.Trees.{entries_of}
use Rattle.table.specs.Rules.{Marked, EntryFits}
use Rattle.entering.proofs.entries.Given as goal

abbrev pub invariant-loop-i : goal.invariant-loop-i
invariant-loop-i l = (l.i ≤ length l.table.node.now) × (length l.marks ≡ length l.initial.marks) × Marked (entries_of l.table) l.marks l.i × ((k : ℕ) → k < l.i → EntryFits l.tree (entries_of l.table) k)
