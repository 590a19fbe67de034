-- `changing::delete` meets its contract. Assumes nothing.
use Rattle.changing.specs.Laws.{delete_replied}
use Rattle.changing.proofs.delete.Goals as goal

pub returns-clause-answers : goal.returns-clause-answers
returns-clause-answers c = let d = c.delete-deleted.ensures in
    λ places. rw d.same.size (delete_replied d.ends (rw (c.from.ensures, c.answer_of.ensures) at c.plain_line.ensures.lays))
