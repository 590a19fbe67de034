-- `bordering::border` meets its contract: each return cites the law of its test. Assumes nothing.
use native.Mathlib.Omega.{arith}
use Rattle.tree.specs.Rules.{found_at, found_missing}
use Rattle.soundness.specs.Judged.{judged_sound}
use Rattle.borders.proofs.BorderingWays.{many_refused, places_refused, bytes_refused, tag_refused, tag_passed}
use Rattle.bordering.proofs.border.Goals as goal

pub returns-then-rows-gt64-clause-ends : goal.returns-then-rows-gt64-clause-ends
returns-then-rows-gt64-clause-ends c = let e = c.refused-then-rows-gt64.ensures in
    rw (e.0, e.1) (judged_sound (rw (← c.view.ensures) c.if-not-sound.ensures) (many_refused _ _ _ _ _ c.if-rows-gt64.true))

pub returns-then-places-size-clause-ends : goal.returns-then-places-size-clause-ends
returns-then-places-size-clause-ends c = let e = c.refused-then-places-size.ensures in
    rw (e.0, e.1) (judged_sound (rw (← c.view.ensures) c.if-not-sound.ensures) (places_refused _ _ _ _ _ (omega arith) c.if-places-size.true))

pub returns-then-bytes-rows-clause-ends : goal.returns-then-bytes-rows-clause-ends
returns-then-bytes-rows-clause-ends c = let e = c.refused-then-bytes-rows.ensures in
    rw (e.0, e.1) (judged_sound (rw (← c.view.ensures) c.if-not-sound.ensures) (bytes_refused _ _ _ _ _ (omega arith) c.if-places-size.false c.if-bytes-rows.true))

pub returns-in_default-clause-ends : goal.returns-in_default-clause-ends
returns-in_default-clause-ends c = let e = c.refused-in_default.ensures in
    rw (e.0, e.1) (judged_sound (rw (← c.view.ensures) c.if-not-sound.ensures) (tag_refused _ _ _ _ _ (omega arith) c.if-places-size.false c.if-bytes-rows.false (found_missing _ c.in_default.ensures)))

pub returns-clause-ends : goal.returns-clause-ends
returns-clause-ends c = judged_sound (rw (← c.view.ensures) c.if-not-sound.ensures)
    (tag_passed _ _ _ _ _ (omega arith) c.if-places-size.false c.if-bytes-rows.false _ (found_at _ _ c.in-Some.ensures) c.write_rows.ensures.ends)
