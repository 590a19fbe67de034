-- `guessing::reader` meets its contract: it stays among nodes. Assumes nothing.
use Rattle.std.specs.Prelude.{◌<◌}
use Rattle.guessing.proofs.reader.Given as goal

abbrev pub invariant-loop : goal.invariant-loop
invariant-loop l = l.n < 128
