-- `linking::all_reach` meets its contract: node by node of the list. Assumes nothing.
use Rattle.basics.specs.Decide.{at}
use Rattle.faults.specs.Faults.{Below}
use Rattle.trees.specs.Trees.{up, Reaches}
use Rattle.linking.specs.Known.{Known}
use Rattle.linking.proofs.all_reach.Given as goal

abbrev pub invariant-loop-n : goal.invariant-loop-n
invariant-loop-n l = let t = l.nodes.tree.now in Below (λ i. Reaches (up t) (at l.nodes.used.now i)) l.n-index × Known t l.known
