-- `gathering::gather` meets its contract: byte after byte is that of the row in cable order. Assumes nothing.
use native.Mathlib.Omega.{arith}
use Rattle.gathering.specs.Gathering.{gathering_all}
use Rattle.gathering.proofs.gather.Goals as goal

pub returns : goal.returns
returns c = gathering_all _ (omega (arith, c.loop-j-test.false, c.loop-j.invariant.size)) c.loop-j.invariant
