-- `nodes::empty_node` meets its contract: the nodes passed are in use, so one is left. Assumes nothing.
use Prim.Native.Nat.{◌-◌}
use Rattle.nodes.specs.Nodes.{Passing}
use Rattle.nodes.proofs.empty_node.Given as goal

abbrev pub invariant-loop-n : goal.invariant-loop-n
invariant-loop-n l = Passing l.tree l.n

abbrev pub decreases-loop-n : goal.decreases-loop-n
decreases-loop-n l = 128 - l.n
