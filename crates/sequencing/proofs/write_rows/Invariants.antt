-- `sequencing::write_rows` meets its contract: at each row the border is along. Assumes nothing.
use Rattle.records.specs.Lent.{SameLent}
use Rattle.owning.specs.Owning.{held_in}
use Rattle.borders.proofs.BorderingLaws.{Along}
use Rattle.sequencing.proofs.write_rows.Given as goal

abbrev pub invariant-loop-i : goal.invariant-loop-i
invariant-loop-i l = SameLent l.initial.records l.records
    × Along l.initial.records.size l.tag l.rows l.bytes (held_in l.initial.records l.initial.places) l.i (held_in l.records l.places)
