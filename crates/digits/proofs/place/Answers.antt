-- `digits::place` meets its contract. Assumes nothing.
use native.Mathlib.Omega.{arith}
use Rattle.laying.specs.Laws.{adds_none, adds_as}
use Rattle.digits.specs.Laws.{place_none, place_some}
use Rattle.digits.proofs.place.Goals as goal

pub returns-then-n-p : goal.returns-then-n-p
returns-then-n-p c = adds_as (place_some _ _ _ c.if-n-p.true c.digit.ensures) c.put.ensures

pub returns-else-n-p : goal.returns-else-n-p
returns-else-n-p c = adds_as (place_none _ _ c.if-n-p.false) (adds_none (omega arith))
