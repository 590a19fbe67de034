-- `ordering::join` meets its contract: what is to join is a node. Assumes nothing.
use Rattle.std.specs.Prelude.{◌<◌}
use Rattle.ordering.proofs.join.Given as goal

abbrev pub invariant-loop-k : goal.invariant-loop-k
invariant-loop-k l = l.n < 128
