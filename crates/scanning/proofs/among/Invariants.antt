-- `scanning::among` meets its contract: of those passed it is known whether one is the number. Assumes nothing.
use Rattle.scanning.specs.Among.{Seen}
use Rattle.scanning.proofs.among.Given as goal

abbrev pub invariant-loop-y : goal.invariant-loop-y
invariant-loop-y l = Seen l.xs l.x l.seen l.y-index
