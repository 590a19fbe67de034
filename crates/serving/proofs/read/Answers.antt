-- `serving::read` meets its contract. Assumes nothing.
use mathlib.Core.Path.{refl, ◌∙◌}
use Rattle.progress.specs.Laws.{run_answered}
use Rattle.serving.proofs.read.Goals as goal

pub returns-clause-answers : goal.returns-clause-answers
returns-clause-answers c = let h = c.goes_on.ensures.held in
    run_answered c.args.run.now c.goes_on.new.self refl (h.records, h.places ∙ c.show.ensures.kept) (rw (← h.text) at c.goes_on.ensures.goes) (rw h.text c.show.ensures.shown)
