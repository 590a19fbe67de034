-- `serving::serve` meets its contract. Assumes nothing.
use mathlib.Core.Path.{refl}
use native.Mathlib.Omega.{arith}
use Rattle.lines.proofs.TurnLaws.{ready_room, turn_step, turn_stop, turn_over, a_change}
use Rattle.serving.proofs.serve.Goals as goal

pub read-requires : goal.read-requires
read-requires c = ready_room c.requires _ c.in-Read.is refl (omega arith)

pub count-requires : goal.count-requires
count-requires c = ready_room c.requires 20 c.in-Count.is refl (omega arith)

pub stop-requires : goal.stop-requires
stop-requires c = ready_room c.requires 12 c.in-Unknown.is refl (omega arith)

pub stop-requires-in-Cut : goal.stop-requires-in-Cut
stop-requires-in-Cut c = ready_room c.requires 12 c.in-Cut.is refl (omega arith)

pub returns-in-Read-clause-turned : goal.returns-in-Read-clause-turned
returns-in-Read-clause-turned c = turn_step _ c.requires.stands c.in-Read.is refl c.read.ensures.answers

pub returns-in-Count-clause-turned : goal.returns-in-Count-clause-turned
returns-in-Count-clause-turned c = turn_step _ c.requires.stands c.in-Count.is refl c.count.ensures.answers

pub returns-in-Unknown-clause-turned : goal.returns-in-Unknown-clause-turned
returns-in-Unknown-clause-turned c = let h = c.stop.ensures.held in
    rw (h.0, h.1) (turn_stop _ c.requires.stands c.in-Unknown.is refl refl refl (rw h.0 at c.stop.ensures.stops))

pub returns-in-Cut-clause-turned : goal.returns-in-Cut-clause-turned
returns-in-Cut-clause-turned c = let h = c.stop-in-Cut.ensures.held in
    rw (h.0, h.1) (turn_stop _ c.requires.stands c.in-Cut.is refl refl refl (rw h.0 at c.stop-in-Cut.ensures.stops))

pub returns-in-Over-clause-turned : goal.returns-in-Over-clause-turned
returns-in-Over-clause-turned c = let h = c.ends.ensures.held in
    rw (h.records, h.places, h.text) (turn_over c.requires.stands c.in-Over.is c.requires.inside c.requires.fits (rw (h.records, h.text) at c.ends.ensures.ends))

pub returns-in-Snapshot-clause-turned : goal.returns-in-Snapshot-clause-turned
returns-in-Snapshot-clause-turned c = a_change _ c.in-Snapshot.is refl c.changes.ensures c.if-changes.false

pub returns-in-Write-clause-turned : goal.returns-in-Write-clause-turned
returns-in-Write-clause-turned c = a_change _ c.in-Write.is refl c.changes.ensures c.if-changes.false

pub returns-in-Delete-clause-turned : goal.returns-in-Delete-clause-turned
returns-in-Delete-clause-turned c = a_change _ c.in-Delete.is refl c.changes.ensures c.if-changes.false
