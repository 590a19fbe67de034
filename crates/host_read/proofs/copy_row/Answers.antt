-- `host_read::copy_row` meets its contract. Assumes nothing.
use mathlib.Core.Path.{refl, sym, ◌∙◌}
use native.Mathlib.Omega.{arith}
use Rattle.std.specs.Prelude.{◌≢◌}
use Rattle.answers.specs.Results.{answer_of}
use Rattle.answers.proofs.Laws.{number_some}
use Rattle.host_read.specs.Laws.{copied_unsound, copied_length, copied_refused, copied_done}
use Rattle.host_read.proofs.copy_row.Goals as goal

pub returns-then-answer_of-number : goal.returns-then-answer_of-number
returns-then-answer_of-number c = copied_unsound (sym c.answer_of.ensures ∙ c.if-answer_of-number.true ∙ c.number.ensures)

pub returns-then-out-size : goal.returns-then-out-size
returns-then-out-size c = copied_length (λ e. c.if-answer_of-number.false (c.answer_of.ensures ∙ e ∙ sym c.number.ensures)) c.if-out-size.true

pub returns-in-Ok : goal.returns-in-Ok
returns-in-Ok c = rw c.in-Ok.is (copied_done (λ e. omega (arith, e)) c.if-out-size.false refl c.copy_from_slice.ensures.after)

pub returns-in-Err : goal.returns-in-Err
returns-in-Err c = let other : answer_of c.args.read ≢ 20 = λ e. c.if-answer_of-number.false (c.answer_of.ensures ∙ e ∙ sym c.number.ensures) in
    let known = rw c.in-Err.is at other in
    rw c.in-Err.is (copied_refused known c.if-out-size.false (number_some _))
