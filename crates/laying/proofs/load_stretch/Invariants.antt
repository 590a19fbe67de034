-- `laying::load_stretch` meets its contract: number by number. Assumes nothing.
use Rattle.laying.specs.Laws.{Loading, Same}
use Rattle.laying.proofs.load_stretch.Given as goal

abbrev pub invariant-loop-i : goal.invariant-loop-i
invariant-loop-i l = Loading l.bytes l.to l.i × Same l.initial.to l.to l.i
