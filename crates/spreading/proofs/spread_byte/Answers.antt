-- `spreading::spread_byte` meets its contract: bit after bit goes to the position's hook. Assumes nothing.
use mathlib.Core.Path.{◌≡◌, refl, ◌∙◌, ap₂}
use Prim.Native.Nat.{◌+◌, ◌*◌, ◌<◌}
use native.Mathlib.Omega.{arith}
use Rattle.spreading.specs.Spreading.{spread_to, position_ready, position_put}
use Rattle.spreading.proofs.spread_byte.Goals as goal

pub loop-k-init : goal.loop-k-init
loop-k-init c = c.requires.3 ∙ ap₂ spread_to (omega arith) refl

pub put-requires : goal.put-requires
put-requires c = let below : 8 * c.args.j + c.loop-k.k < 1024 = omega arith in
    position_ready _ _ below c.loop-k.invariant c.hook-hook.ensures.0 c.bit-bit.ensures

pub loop-k-preserved : goal.loop-k-preserved
loop-k-preserved c = let below : 8 * c.args.j + c.loop-k.k < 1024 = omega arith in
    c.put.ensures ∙ position_put _ _ below c.loop-k.invariant c.hook-hook.ensures.0 c.bit-bit.ensures ∙ ap₂ spread_to (omega arith) refl

pub returns : goal.returns
returns c = c.loop-k.invariant ∙ ap₂ spread_to (let e : 8 * c.args.j + c.loop-k.k ≡ 8 * c.args.j + 8 = omega arith in e) refl
