-- `laying::Writer::lay_numbers` meets its contract. Assumes nothing.
use native.Mathlib.Omega.{arith}
use Rattle.laying.specs.Laid.{high_byte, low_byte, pairs}
use Rattle.laying.specs.Laws.{laying_start, laying_room, laying_next, laying_all}
use Rattle.laying.proofs.Writer.lay_numbers.Goals as goal

pub loop-x-init : goal.loop-x-init
loop-x-init c = laying_start high_byte low_byte _ _ c.requires

pub two-requires : goal.two-requires
two-requires c = laying_room high_byte low_byte _ _ c.loop-x.invariant c.loop-x-test.true

pub loop-x-preserved : goal.loop-x-preserved
loop-x-preserved c = laying_next high_byte low_byte _ _ c.loop-x.invariant c.loop-x-test.true
    (rw c.to_be_bytes.ensures (omega (arith, c.type_inv.xs c.loop-x.x-index)))
    (rw c.to_be_bytes.ensures (omega (arith, c.type_inv.xs c.loop-x.x-index)))
    c.two.ensures

pub returns : goal.returns
unfolding pairs
returns c = laying_all high_byte low_byte _ _ c.loop-x.invariant c.loop-x-test.false
