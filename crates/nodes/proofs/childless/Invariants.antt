-- `nodes::childless` meets its contract: children are counted. Assumes nothing.
use Rattle.faults.specs.Faults.{Faults}
use Rattle.nodes.specs.Nodes.{NoChild}
use Rattle.nodes.proofs.childless.Given as goal

abbrev pub invariant-loop-n : goal.invariant-loop-n
invariant-loop-n l = Faults (NoChild l.tree.state l.tree.parent l.v) l.n l.children
