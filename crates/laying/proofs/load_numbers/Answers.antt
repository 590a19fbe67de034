-- `laying::load_numbers` meets its contract. Assumes nothing.
use native.Mathlib.Omega.{arith}
use Rattle.laying.specs.Laws.{load_all}
use Rattle.laying.proofs.load_numbers.Goals as goal

pub returns : goal.returns
returns c = load_all _ _ _ (omega arith) c.load_stretch.ensures.0
