-- `writing::write` meets its contract: each return cites the law of its test. Assumes nothing.
use Rattle.writes.proofs.WritingWays.{places_refused, width_refused}
use Rattle.soundness.specs.Judged.{judged_sound, leaves_refused}
use Rattle.answers.specs.declared.Refusal.TheVariants.{BadLength}
use Rattle.writing.proofs.write.Goals as goal

pub returns-then-places-size-clause-ends : goal.returns-then-places-size-clause-ends
returns-then-places-size-clause-ends c = judged_sound (rw (← c.view.ensures) c.if-not-sound.ensures) (leaves_refused BadLength (places_refused _ _ _ _ _ c.if-places-size.true))

pub returns-then-bytes-size-clause-ends : goal.returns-then-bytes-size-clause-ends
returns-then-bytes-size-clause-ends c = judged_sound (rw (← c.view.ensures) c.if-not-sound.ensures) (leaves_refused BadLength (width_refused _ _ _ _ _ c.if-places-size.false c.if-bytes-size.true))
