-- `nearing::near` meets its contract: node by node of the list. Assumes nothing.
use Rattle.nearing.specs.Near.{Near}
use Rattle.nearing.proofs.near.Given as goal

abbrev pub invariant-loop-n : goal.invariant-loop-n
invariant-loop-n l = Near l.nodes.tree.now l.near
