-- `tree::snapshots` meets its contract: the snapshots below n are counted. Assumes nothing.
use Prim.Native.Nat.{◌≤◌, ◌<◌}
use mathlib.Core.Path.{◌≡◌}
use Rattle.trees.specs.Trees.{is_snapshot}
use Rattle.basics.specs.Count.{count}
use Rattle.tree.proofs.snapshots.Given as goal

abbrev pub invariant-loop-n : goal.invariant-loop-n
invariant-loop-n l = (1 ≤ l.n) × (l.n ≤ 128) × (l.alive < l.n) × (l.alive ≡ count (is_snapshot (l.tree)) l.n)
