-- `changing::snapshot` meets its contract. Assumes nothing.
use mathlib.Core.Path.{refl}
use Rattle.changing.specs.Laws.{snapshot_replied}
use Rattle.changing.proofs.snapshot.Goals as goal

pub returns-clause-answers : goal.returns-clause-answers
returns-clause-answers c = λ places. snapshot_replied refl refl c.snapshot-taken.ensures (rw (c.from.ensures, c.answer_of.ensures) at c.plain_line.ensures.lays)
