-- `ordering::parents_first` meets its contract. Assumes nothing.
use Rattle.ordering.specs.Ordered.{Noting}
use Rattle.ordering.proofs.parents_first.Given as goal

abbrev pub invariant-loop-j : goal.invariant-loop-j
invariant-loop-j l = Noting l.parent l.order l.end l.seen l.j
