-- `laying::Writer::put` meets its contract. Assumes nothing.
use mathlib.Core.Path.{refl}
use native.Mathlib.Omega.{arith}
use Rattle.laying.specs.Laws.{lays_one}
use Rattle.laying.proofs.Writer.put.Goals as goal

pub returns : goal.returns
returns c = record { lays = lays_one _ _ _ (omega arith); lent = refl }
