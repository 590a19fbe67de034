-- `gathering::gather` meets its contract: byte after byte is that of the row in cable order. Assumes nothing.
use Rattle.gathering.specs.Gathering.{Gathering}
use Rattle.gathering.proofs.gather.Given as goal

abbrev pub invariant-loop-j : goal.invariant-loop-j
invariant-loop-j l = Gathering l.row l.out l.j
