-- `clearing::rest_read` meets its contract: the exceptions passed are read. Assumes nothing.
use native.Mathlib.Omega.{arith}
use Rattle.clearing.specs.Clear.{clear_read}
use Rattle.clearing.proofs.rest_read.Goals as goal

pub loop-i-init : goal.loop-i-init
loop-i-init c = let p = c.requires in λ i l. clear_read _ _ _ p.1 _ p.0 i (omega (arith, p.2.most)) (p.2.before i l)
