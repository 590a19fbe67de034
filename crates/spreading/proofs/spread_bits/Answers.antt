-- `spreading::spread_bits` meets its contract: byte after byte goes to its hooks. Assumes nothing.
use mathlib.Core.Path.{◌≡◌, refl, ◌∙◌, ap₂}
use Prim.Native.Nat.{◌*◌}
use native.Mathlib.Omega.{arith}
use Rattle.spreading.specs.Spreading.{spread_to, spread_none, spread_all}
use Rattle.spreading.proofs.spread_bits.Goals as goal

pub loop-j-init : goal.loop-j-init
loop-j-init c = c.requires.2 ∙ spread_none _

pub loop-j-preserved : goal.loop-j-preserved
loop-j-preserved c = c.spread_byte.ensures ∙ ap₂ spread_to (omega arith) refl

pub returns : goal.returns
returns c = c.loop-j.invariant ∙ ap₂ spread_to (let e : 8 * c.loop-j.j ≡ 1024 = omega arith in e) refl ∙ spread_all _
