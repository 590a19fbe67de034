-- `nodes::children` meets its contract: the children below n are counted. Assumes nothing.
use Prim.Native.Nat.{◌<◌}
use mathlib.Core.Path.{◌≡◌}
use Rattle.trees.specs.Trees.{is_child}
use Rattle.basics.specs.Count.{count}
use Rattle.nodes.proofs.children.Given as goal

abbrev pub invariant-loop-n : goal.invariant-loop-n
invariant-loop-n l = (l.sum < l.n) × (l.sum ≡ count (is_child l.tree l.p) l.n)
