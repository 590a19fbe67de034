-- `clearing::clear_to` meets its contract. Assumes nothing.
use Rattle.faults.specs.Faults.{Below}
use Rattle.trees.specs.Trees.{entries_of}
use Rattle.clearing.specs.Clear.{Clear}
use Rattle.clearing.proofs.clear_to.Given as goal

abbrev pub invariant-loop-i : goal.invariant-loop-i
invariant-loop-i l = Below (Clear l.near (entries_of l.table) l.marks) l.i
