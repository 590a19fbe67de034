-- `applying::snapshot` meets its contract. Assumes nothing.
use Rattle.std.specs.Prelude.{◌≡◌, List, ℕ}
use Rattle.std.proofs.Common.{refl, ap}
use Rattle.trees.specs.declared.Tree.{Tree}
use Rattle.records.specs.Records.{Records, records_of}
use Rattle.model.specs.Call.{Call}
use Rattle.progress.specs.Replying.{Replied}
use Rattle.progress.specs.Laws.{run_answered}
use Rattle.applying.proofs.snapshot.Goals as goal

-- what is said of records as they are seen holds of those that are lent
of_lent : {y z : Records} {places : List ℕ} {call : Call} {k from to : ℕ} {out out' : List ℕ} {t u : Tree} → y ≡ z → t ≡ u → Replied y places call k out from (records_of y.size t y.node y.row) places out' to
    → Replied z places call k out from (records_of z.size u z.node z.row) places out' to
of_lent e f r = rw (← e, ← f) r

pub returns-in-Ok-clause-answers : goal.returns-in-Ok-clause-answers
returns-in-Ok-clause-answers c = let h = c.goes_on.ensures.held in
    let run = c.args.run.now in
    run_answered run c.goes_on.new.self refl (h.records, h.places) (rw (← h.text) at c.goes_on.ensures.goes) (rw h.text (of_lent c.view.ensures refl (c.in-Ok.ensures.answers run.places.now)))

pub returns-in-Err-clause-answers : goal.returns-in-Err-clause-answers
returns-in-Err-clause-answers c = let g = c.goes_on-in-Err in
    let h = g.ensures.held in
    let run = c.args.run.now in
    run_answered run g.new.self refl (h.records, h.places) (rw (← h.text) at g.ensures.goes) (rw h.text (of_lent c.view.ensures (ap (λ (z : Records). z.tree) c.view.ensures) (c.in-Err.ensures.answers run.places.now)))
