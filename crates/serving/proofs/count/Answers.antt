-- `serving::count` meets its contract. Assumes nothing.
use mathlib.Core.Path.{refl}
use Rattle.progress.specs.Laws.{run_answered}
use Rattle.serving.proofs.count.Goals as goal

pub returns-clause-answers : goal.returns-clause-answers
returns-clause-answers c = let h = c.goes_on.ensures.held in
    let run = c.args.run.now in
    run_answered run c.goes_on.new.self refl (h.records, h.places) (rw (← h.text) at c.goes_on.ensures.goes) (rw h.text (rw c.view.ensures at (c.count.ensures.answers run.places.now)))
