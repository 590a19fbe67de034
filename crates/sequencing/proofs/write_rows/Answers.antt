-- `sequencing::write_rows` meets its contract: at each row the border is along. Assumes nothing.
use borrow.Author.Rules.{rules}
use mathlib.Core.Path.{◌≡◌, refl}
use native.Mathlib.Omega.{arith}
use lib.ListN.{length}
use Rattle.answers.proofs.Laws.{number_some}
use Rattle.edits.specs.Edits.{Whole}
use Rattle.borders.proofs.BorderingLaws.{along_start, along_over, along_ends, along_next}
use Rattle.sequencing.proofs.write_rows.Goals as goal

pub loop-i-init : goal.loop-i-init
loop-i-init c = let whole : Whole c.args.records.now.tree = record { state = search rules; tag = search rules; parent = search rules } in
    (search rules, along_start _ _ _ _ _ (record { sound = c.requires.0; size = c.requires.1; whole = whole }))

pub returns-in-Err-clause-ends : goal.returns-in-Err-clause-ends
returns-in-Err-clause-ends c = let i = c.loop-i.invariant in
    along_ends _ _ _ _ i.1 c.loop-i-test.true (rw i.0.size at c.in-Err.ensures.ends) (number_some c.in-Err.refusal)

pub loop-i-preserved : goal.loop-i-preserved
loop-i-preserved c = let i = c.loop-i.invariant in
    (search rules, along_next _ _ _ _ i.1 c.loop-i-test.true (rw i.0.size at c.in_default.ensures.ends) refl)

pub returns-clause-ends : goal.returns-clause-ends
returns-clause-ends c = let all : c.loop-i.i ≡ length c.args.rows.now = omega arith in
    rw all at (along_over _ _ _ _ c.loop-i.invariant.1 c.loop-i-test.false)
