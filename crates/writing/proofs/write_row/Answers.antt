-- `writing::write_row` meets its contract: each return cites the law of its test. Assumes nothing.
use Rattle.writes.proofs.WritingWays.{row_refused, tag_refused, tag_passed, written_version}
use Rattle.soundness.specs.Judged.{leaves_refused, leaves_same}
use Rattle.answers.specs.declared.Refusal.TheVariants.{BadRow, UnknownTag}
use Rattle.tree.specs.Nodes.{version_alive}
use Rattle.tree.specs.Rules.{found_at, found_missing}
use Rattle.writing.proofs.write_row.Goals as goal

pub returns-then-not-is_below-clause-ends : goal.returns-then-not-is_below-clause-ends
returns-then-not-is_below-clause-ends c = let p = c.requires in
    leaves_refused BadRow (row_refused _ _ _ _ _ p.1 p.2 c.if-not-is_below.ensures)

pub returns-in_default-clause-ends : goal.returns-in_default-clause-ends
returns-in_default-clause-ends c = let p = c.requires in
    leaves_refused UnknownTag (tag_refused _ _ _ _ _ p.1 p.2 c.if-not-is_below.ensures (found_missing _ c.in_default.ensures))

pub save_row-requires : goal.save_row-requires
save_row-requires c = let p = c.requires in
    record { sound = p.0; size = p.1; alive = (version_alive _ _ _ (found_at _ _ c.in-Some.ensures)).0; low = c.if-not-is_below.ensures; width = p.2 }

pub returns-clause-ends : goal.returns-clause-ends
returns-clause-ends c = let p = c.requires in
    let known = found_at _ _ c.in-Some.ensures in
    leaves_same (tag_passed _ _ _ _ _ p.1 p.2 c.if-not-is_below.ensures _ known) (written_version _ _ _ _ _ _ known) c.save_row.ensures.ends
