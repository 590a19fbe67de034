-- `sharing::full` meets its contract: the least node is found. Assumes nothing.
use Rattle.sharing.specs.Laws.{Least}
use Rattle.sharing.proofs.full.Given as goal

abbrev pub invariant-loop-n : goal.invariant-loop-n
invariant-loop-n l = Least l.node l.n-index l.least
