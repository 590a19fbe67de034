-- `touching::save_row` meets its contract. Assumes nothing.
use mathlib.Core.Path.{sym, ◌∙◌, ap}
use Rattle.records.specs.Records.{table}
use Rattle.writes.proofs.StoringLaws.{inside_place}
use Rattle.writes.proofs.TouchingLaws.{compared, untouched_passes, untouched_left, touched_test, touched_left}
use Rattle.soundness.specs.Judged.{leaves_done, leaves_same}
use Rattle.touching.proofs.save_row.Goals as goal

pub holds-requires : goal.holds-requires
holds-requires c = rw (rw (c.entries.ensures ∙ ap table c.view.ensures) at c.lookup-seen.ensures.place) (inside_place c.requires)

pub returns-then-holds-clause-ends : goal.returns-then-holds-clause-ends
returns-then-holds-clause-ends c = let h = sym (compared _ _ _ _ _ c.holds.ensures (rw (c.entries.ensures ∙ ap table c.view.ensures) at c.lookup-seen.ensures.place)) ∙ c.if-holds.true in
    leaves_done (untouched_passes _ _ _ _ _ h) (sym (untouched_left _ _ _ _ _ h))

pub returns-clause-ends : goal.returns-clause-ends
returns-clause-ends c = let h = sym (compared _ _ _ _ _ c.holds.ensures (rw (c.entries.ensures ∙ ap table c.view.ensures) at c.lookup-seen.ensures.place)) ∙ c.if-holds.false in
    leaves_same (touched_test _ _ _ _ _ h) (touched_left _ _ _ _ _ h) c.store_row.ensures.ends
