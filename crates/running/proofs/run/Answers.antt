-- `running::run` meets its contract: each return cites the law of its test. Assumes nothing.
use mathlib.Core.Path.{refl, sym}
use Rattle.records.specs.Lent.{lent}
use Rattle.lines.proofs.StreamLaws.{run_places, run_long, run_room}
use Rattle.running.proofs.run.Goals as goal

pub returns-then-places-size-clause-ends : goal.returns-then-places-size-clause-ends
returns-then-places-size-clause-ends c = run_places (lent c.args.records.now) _ _ _ (refl, refl, refl) (rw c.view.ensures at c.if-not-sound.ensures) c.if-places-size.true

pub returns-then-stream-gt4096-clause-ends : goal.returns-then-stream-gt4096-clause-ends
returns-then-stream-gt4096-clause-ends c = run_long (lent c.args.records.now) _ _ _ (refl, refl, refl) (rw c.view.ensures at c.if-not-sound.ensures) c.if-places-size.false c.if-stream-gt4096.true

pub returns-then-out-room-clause-ends : goal.returns-then-out-room-clause-ends
returns-then-out-room-clause-ends c = run_room (lent c.args.records.now) _ _ _ (refl, refl, refl) (rw c.view.ensures at c.if-not-sound.ensures) c.if-places-size.false c.if-stream-gt4096.false (rw (sym c.room.ensures) c.if-out-room.true)
