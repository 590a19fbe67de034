-- `sharing::readers` meets its contract: stretch by stretch. Assumes nothing.
use Prim.Native.Nat.{◌+◌}
use native.Mathlib.Omega.{arith}
use Rattle.sharing.specs.Laws.{counted_start, counted_past}
use Rattle.basics.specs.Decide.{holds}
use Rattle.std.specs.Prelude.{◌≡◌, ◌+◌, ◌*◌}
use Rattle.sharing.proofs.readers.Goals as goal
use Rattle.sharing.proofs.readers.Goals.{then-not-idle_from, else-not-idle_from}

pub loop-k-init : goal.loop-k-init
loop-k-init c = counted_start _ _ _ _

pub loop-k-preserved : goal.loop-k-preserved
loop-k-preserved c = let e : 16 * (c.loop-k.k + 1) ≡ 16 * c.loop-k.k + 16 = omega arith in
    elim c.if-not-idle_from.branch [
      | then-not-idle_from w ↦ rw (e, w.sum-is) w.readers_in-sum.ensures
      | else-not-idle_from w ↦ rw (e, w.sum-is) (counted_past _ _ _ _ 16 (omega (arith, c.loop-k-test.true)) (holds c.idle_from.result c.idle_from.ensures w.if-not-idle_from.false) c.loop-k.invariant)
    ]
