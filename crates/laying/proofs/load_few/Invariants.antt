-- `laying::load_few` meets its contract: stretch by stretch. Assumes nothing.
use Prim.Native.Nat.{ℕ, ◌≤◌, ◌*◌}
use mathlib.Core.Path.{◌≡◌}
use lib.ListN.{length}
use Rattle.basics.specs.Decide.{at}
use Rattle.laying.specs.Laws.{Loading}
use Rattle.laying.proofs.load_few.Given as goal

abbrev pub invariant-loop-j : goal.invariant-loop-j
invariant-loop-j l = (length l.to ≡ 128) × Loading l.bytes l.to (16 * l.j) × ((k : ℕ) → 16 * l.j ≤ k → at l.to k ≡ 0)
