-- `spreading::spread_bits` meets its contract: byte after byte goes to its hooks. Assumes nothing.
use mathlib.Core.Path.{◌≡◌}
use Prim.Native.Nat.{◌*◌}
use Rattle.spreading.specs.Spreading.{spread_to}
use Rattle.spreading.proofs.spread_bits.Given as goal

abbrev pub invariant-loop-j : goal.invariant-loop-j
invariant-loop-j l = l.out ≡ spread_to (8 * l.j) l.row
