-- `listing::busy_to` meets its contract. Assumes nothing.
use native.Mathlib.Omega.{arith}
use Rattle.basics.specs.Decide.{holds}
use Rattle.listing.proofs.busy_to.Goals as goal

pub returns-then-zero_part : goal.returns-then-zero_part
returns-then-zero_part c = let z = c.zero_part in
    record { most = omega arith; step = (1, omega arith); idle = holds z.result z.ensures c.if-zero_part.true }

pub returns-else-zero_part : goal.returns-else-zero_part
returns-else-zero_part c = record { most = omega arith; step = (8, omega arith); idle = λ m a b. absurd (omega arith) }
