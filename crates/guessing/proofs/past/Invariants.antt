-- `guessing::past` meets its contract: going up stays among nodes. Assumes nothing.
use Rattle.std.specs.Prelude.{◌<◌}
use Rattle.guessing.proofs.past.Given as goal

abbrev pub invariant-loop : goal.invariant-loop
invariant-loop l = l.m < 128
