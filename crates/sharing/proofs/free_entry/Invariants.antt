-- `sharing::free_entry` meets its contract: no entry passed is free. Assumes nothing.
use Rattle.sharing.specs.Laws.{Passed}
use Rattle.sharing.proofs.free_entry.Given as goal

abbrev pub invariant-loop-i : goal.invariant-loop-i
invariant-loop-i l = Passed l.node l.i
