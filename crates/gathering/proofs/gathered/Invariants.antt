-- `gathering::gathered` meets its contract: bit after bit is that of the position's hook. Assumes nothing.
use Rattle.gathering.specs.Gathering.{Gathered}
use Rattle.gathering.proofs.gathered.Given as goal

abbrev pub invariant-loop-k : goal.invariant-loop-k
invariant-loop-k l = Gathered l.row l.j l.byte l.k
