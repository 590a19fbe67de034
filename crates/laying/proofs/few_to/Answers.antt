-- `laying::few_to` meets its contract. Assumes nothing.
use native.Mathlib.Omega.{arith}
use Rattle.laying.proofs.few_to.Goals as goal

pub returns-else-zero_part : goal.returns-else-zero_part
returns-else-zero_part c = record { most = omega arith; step = (8, omega arith); idle = λ m a b. absurd (omega arith) }
