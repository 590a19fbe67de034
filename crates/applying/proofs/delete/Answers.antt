-- `applying::delete` meets its contract. Assumes nothing.
use Rattle.progress.specs.Laws.{run_answered}
use Rattle.applying.proofs.delete.Goals as goal

pub returns-clause-answers : goal.returns-clause-answers
returns-clause-answers c = let h = c.goes_on.ensures.held in
    let d = c.delete.ensures in
    let run = c.args.run.now in
    run_answered run c.goes_on.new.self d.same.size (h.records, h.places) (rw (← h.text) at c.goes_on.ensures.goes) (rw h.text (rw d.same.size at (d.answers run.places.now)))
