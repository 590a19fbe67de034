-- `sharing::full_to` meets its contract: stretch by stretch no entry is free. Assumes nothing.
use Rattle.std.specs.Prelude.{◌≡◌, ◌+◌, ◌*◌}
use native.Mathlib.Omega.{arith}
use Rattle.basics.specs.Decide.{holds}
use Rattle.sharing.specs.Laws.{pass_start, pass_full}
use Rattle.sharing.proofs.full_to.Goals as goal

pub loop-k-init : goal.loop-k-init
loop-k-init c = pass_start _

pub loop-k-preserved : goal.loop-k-preserved
loop-k-preserved c = let e : 64 * (c.loop-k.k + 1) ≡ 64 * c.loop-k.k + 64 = omega arith in
    rw e (pass_full _ _ _ (omega arith) (omega (arith, c.loop-k-test.true)) (holds c.full.result c.full.ensures c.if-not-full.false) c.loop-k.invariant)
