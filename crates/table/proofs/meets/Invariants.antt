-- `table::meets` meets its contract: the node reached meets g if and only if n does, and no climb has 128 steps. Assumes nothing.
use mathlib.Core.Logic.{◌↔◌}
use Rattle.table.specs.Rules.{Meets}
use Rattle.tree.specs.Loops.{Climbing}
use Rattle.table.proofs.meets.Given as goal

abbrev pub invariant-loop-k : goal.invariant-loop-k
invariant-loop-k l = Climbing l.tree l.n l.m l.k × (Meets l.tree l.marks l.r.0 l.g l.n ↔ Meets l.tree l.marks l.r.0 l.g l.m)
