-- `affecting::affected` meets its contract: going up, what is passed gets a 1. Assumes nothing.
use mathlib.Core.Logic.{◌≢◌}
use Rattle.tree.specs.Loops.{Climbing}
use Rattle.affecting.specs.Affected.{Passing}
use Rattle.affecting.proofs.affected.Given as goal

abbrev pub invariant-loop-k : goal.invariant-loop-k
invariant-loop-k l = Climbing l.tree l.v l.m l.k × Passing l.tree l.v l.xs l.m × (l.m ≢ 0)
