-- `running::room` meets its contract. Assumes nothing.
use Prim.Native.Nat.{◌+◌, ◌*◌, ◌≤◌}
use native.Mathlib.Nat.{mul-le-mul}
use native.Mathlib.Omega.{arith}
use Rattle.running.proofs.room.Goals as goal

pub overflow_mul-result-2 : goal.overflow_mul-result-2
overflow_mul-result-2 c = let w : 20 + 2 * c.args.width ≤ 2068 = omega (arith, c.requires.0) in
    omega (arith, mul-le-mul w c.requires.1)
