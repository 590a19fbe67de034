-- `clearing::all_read` meets its contract. Assumes nothing.
use native.Mathlib.Omega.{arith}
use Rattle.basics.specs.Decide.{holds}
use Rattle.clearing.specs.Clear.{lively_read, clear_read}
use Rattle.clearing.proofs.all_read.Goals as goal

pub returns-then-at_most : goal.returns-then-at_most
returns-then-at_most c = lively_read _ _ _ c.requires (holds c.at_most.result c.at_most.ensures c.if-at_most.true)

pub returns-then-k-table : goal.returns-then-k-table
returns-then-k-table c = λ i l. clear_read _ _ _ c.requires _ c.near-near.ensures i l (c.clear_to-k.ensures.before i (omega (arith, c.if-k-table.true, l)))
