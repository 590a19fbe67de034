-- `spreading::spread_byte` meets its contract: bit after bit goes to the position's hook. Assumes nothing.
use mathlib.Core.Path.{◌≡◌}
use Prim.Native.Nat.{◌+◌, ◌*◌}
use Rattle.spreading.specs.Spreading.{spread_to}
use Rattle.spreading.proofs.spread_byte.Given as goal

abbrev pub invariant-loop-k : goal.invariant-loop-k
invariant-loop-k l = l.out ≡ spread_to (8 * l.j + l.k) l.row
