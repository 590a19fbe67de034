-- `showing::count` meets its contract. Assumes nothing.
use mathlib.Core.Path.{refl}
use Rattle.answers.proofs.Laws.{number_some}
use Rattle.showing.specs.Laws.{count_refused, count_replied}
use Rattle.showing.proofs.count.Goals as goal

pub returns-in-Ok-clause-answers : goal.returns-in-Ok-clause-answers
returns-in-Ok-clause-answers c = λ places. count_replied refl c.in-Ok.ensures c.count_line.ensures.lays

pub returns-in-Err-clause-answers : goal.returns-in-Err-clause-answers
returns-in-Err-clause-answers c = λ places. count_refused refl (number_some _) c.in-Err.ensures (rw (c.from.ensures, c.number.ensures) at c.plain_line.ensures.lays)
