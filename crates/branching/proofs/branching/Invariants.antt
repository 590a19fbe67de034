-- `branching::branching` meets its contract. Assumes nothing.
use Rattle.basics.specs.Decide.{at}
use Rattle.faults.specs.Faults.{Below}
use Rattle.branching.specs.Children.{Forks}
use Rattle.branching.proofs.branching.Given as goal

abbrev pub invariant-loop-n : goal.invariant-loop-n
invariant-loop-n l = Below (λ i. Forks l.nodes.tree.now l.kids (at l.nodes.used.now i)) l.n-index
