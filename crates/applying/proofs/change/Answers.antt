-- `applying::change` meets its contract. Assumes nothing.
use mathlib.Core.Path.{refl}
use native.Mathlib.Omega.{arith}
use Rattle.lines.proofs.TurnLaws.{ready_room, ready_write, turn_step, no_change}
use Rattle.applying.proofs.change.Goals as goal

pub snapshot-requires : goal.snapshot-requires
snapshot-requires c = ready_room c.requires.0 12 c.in-Snapshot.is refl (omega arith)

pub write-requires : goal.write-requires
write-requires c = (ready_room c.requires.0 12 c.in-Write.is refl (omega arith), ready_write c.requires.0 c.in-Write.is)

pub delete-requires : goal.delete-requires
delete-requires c = ready_room c.requires.0 12 c.in-Delete.is refl (omega arith)

pub returns-in-Snapshot-clause-turned : goal.returns-in-Snapshot-clause-turned
returns-in-Snapshot-clause-turned c = turn_step _ c.requires.0.stands c.in-Snapshot.is refl c.snapshot.ensures.answers

pub returns-in-Write-clause-turned : goal.returns-in-Write-clause-turned
returns-in-Write-clause-turned c = turn_step _ c.requires.0.stands c.in-Write.is refl c.write.ensures.answers

pub returns-in-Delete-clause-turned : goal.returns-in-Delete-clause-turned
returns-in-Delete-clause-turned c = turn_step _ c.requires.0.stands c.in-Delete.is refl c.delete.ensures.answers

pub returns-in-Read-clause-turned : goal.returns-in-Read-clause-turned
returns-in-Read-clause-turned c = no_change _ c.in-Read.is refl c.requires.1

pub returns-in-Count-clause-turned : goal.returns-in-Count-clause-turned
returns-in-Count-clause-turned c = no_change _ c.in-Count.is refl c.requires.1

pub returns-in-Unknown-clause-turned : goal.returns-in-Unknown-clause-turned
returns-in-Unknown-clause-turned c = no_change _ c.in-Unknown.is refl c.requires.1

pub returns-in-Cut-clause-turned : goal.returns-in-Cut-clause-turned
returns-in-Cut-clause-turned c = no_change _ c.in-Cut.is refl c.requires.1

pub returns-in-Over-clause-turned : goal.returns-in-Over-clause-turned
returns-in-Over-clause-turned c = no_change _ c.in-Over.is refl c.requires.1
