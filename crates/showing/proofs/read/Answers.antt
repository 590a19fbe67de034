-- `showing::read` meets its contract. Assumes nothing.
use borrow.Author.Rules.{rules}
use mathlib.Core.Path.{refl}
use native.Mathlib.Omega.{arith}
use Rattle.answers.proofs.Laws.{number_some}
use Rattle.showing.specs.Laws.{read_refused, read_replied, read_most}
use Rattle.showing.proofs.read.Goals as goal

pub row_line-requires : goal.row_line-requires
row_line-requires c = omega (arith, read_most _ _ _ _ _ c.in-Ok.ensures.ends, c.requires)

pub returns-in-Ok-clause-answers : goal.returns-in-Ok-clause-answers
returns-in-Ok-clause-answers c = read_replied refl (rw c.from.ensures at c.in-Ok.ensures.ends) c.row_line.ensures.lays

pub returns-in-Err-clause-answers : goal.returns-in-Err-clause-answers
returns-in-Err-clause-answers c = read_refused c.from.ensures (number_some _) c.in-Err.ensures.ends (search rules)
