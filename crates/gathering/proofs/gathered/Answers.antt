-- `gathering::gathered` meets its contract: bit after bit is that of the position's hook. Assumes nothing.
use mathlib.Core.Path.{refl, ◌∙◌, ap₂}
use Prim.Native.Nat.{◌<◌}
use native.Mathlib.Omega.{arith}
use Rattle.rowbits.specs.Bits.{bit_of}
use Rattle.rowbits.specs.Laws.{bit_two}
use Rattle.gathering.specs.Gathering.{gathered_none, gathered_room, gathered_more, gathered_all}
use Rattle.gathering.proofs.gathered.Goals as goal

pub loop-k-init : goal.loop-k-init
loop-k-init c = gathered_none _ _

pub overflow_mul-byte : goal.overflow_mul-byte
overflow_mul-byte c = let room : c.loop-k.byte < 128 = gathered_room _ _ c.loop-k.invariant c.loop-k-test.true in
    omega (arith, room)

pub overflow_add-byte : goal.overflow_add-byte
overflow_add-byte c = let room : c.loop-k.byte < 128 = gathered_room _ _ c.loop-k.invariant c.loop-k-test.true in
    omega (arith, room, c.bit.ensures, bit_two c.args.row.now c.hook-hook.result)

pub loop-k-preserved : goal.loop-k-preserved
loop-k-preserved c = gathered_more _ _ c.loop-k.invariant c.loop-k-test.true _ (c.bit.ensures ∙ ap₂ bit_of refl c.hook-hook.ensures.0)

pub returns : goal.returns
returns c = gathered_all _ _ c.loop-k.invariant c.requires.2 c.loop-k-test.false
