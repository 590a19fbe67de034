-- `clearing::rest_read` meets its contract: the exceptions passed are read. Assumes nothing.
use Rattle.faults.specs.Faults.{Below}
use Rattle.trees.specs.Trees.{entries_of}
use Rattle.table.specs.Rules.{ReadAt}
use Rattle.clearing.proofs.rest_read.Given as goal

abbrev pub invariant-loop-i : goal.invariant-loop-i
invariant-loop-i l = Below (ReadAt l.tree (entries_of l.table)) l.i
