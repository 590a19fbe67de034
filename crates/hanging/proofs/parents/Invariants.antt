-- `hanging::parents` meets its contract. Assumes nothing.
use Rattle.basics.specs.Decide.{at}
use Rattle.faults.specs.Faults.{Below}
use Rattle.trees.specs.Trees.{InUse, up}
use Rattle.hanging.proofs.parents.Given as goal

abbrev pub invariant-loop-n : goal.invariant-loop-n
invariant-loop-n l = Below (λ i. InUse l.nodes.tree.now (up l.nodes.tree.now (at l.nodes.used.now i))) l.n-index
