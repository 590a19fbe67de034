-- `noting::note` meets its contract: the entries passed are noted. Assumes nothing.
use Rattle.trees.specs.Trees.{table_of}
use Rattle.notes.specs.Notes.{Noting}
use Rattle.noting.proofs.note.Given as goal

abbrev pub invariant-loop-i : goal.invariant-loop-i
invariant-loop-i l = Noting (table_of l.rows l.node l.row) l.key l.notes l.i
