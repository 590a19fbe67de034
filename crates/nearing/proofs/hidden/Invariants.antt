-- `nearing::hidden` meets its contract, node by node. Assumes nothing.
use Rattle.nearing.specs.Near.{Hidden}
use Rattle.nearing.proofs.hidden.Given as goal

abbrev pub invariant-loop-g : goal.invariant-loop-g
invariant-loop-g l = Hidden l.state l.near l.g
