-- `sharing::full_to` meets its contract: stretch by stretch no entry is free. Assumes nothing.
use Rattle.sharing.specs.Laws.{Passed}
use Rattle.sharing.proofs.full_to.Given as goal
use Rattle.std.specs.Prelude.{◌*◌}

abbrev pub invariant-loop-k : goal.invariant-loop-k
invariant-loop-k l = Passed l.node (64 * l.k)
