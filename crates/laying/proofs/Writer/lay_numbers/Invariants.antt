-- `laying::Writer::lay_numbers` meets its contract. Assumes nothing.
use Rattle.laying.specs.Laid.{high_byte, low_byte}
use Rattle.laying.specs.Laws.{Laying}
use Rattle.laying.proofs.Writer.lay_numbers.Given as goal

abbrev pub invariant-loop-x : goal.invariant-loop-x
invariant-loop-x l = Laying high_byte low_byte l.xs l.initial.self l.self l.x-index
