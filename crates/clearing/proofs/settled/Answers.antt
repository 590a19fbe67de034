-- `clearing::settled` meets its contract. Assumes nothing.
use Rattle.basics.specs.Decide.{holds}
use Rattle.clearing.specs.Clear.{clear_read}
use Rattle.clearing.proofs.settled.Goals as goal

pub returns-then-clear : goal.returns-then-clear
returns-then-clear c = rw c.if-clear.true (clear_read _ _ _ c.requires.2 _ c.requires.1 _ c.requires.0 (holds c.clear.result c.clear.ensures c.if-clear.true))
