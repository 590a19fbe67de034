-- `digits::decimal` meets its contract. Assumes nothing.
use Rattle.laying.specs.Laws.{adds_then}
use Rattle.digits.specs.Digits.{decimal}
use Rattle.digits.proofs.decimal.Goals as goal

pub returns : goal.returns
unfolding decimal
returns c = adds_then c.place.ensures (adds_then c.place-2.ensures (adds_then c.place-3.ensures (rw c.digit.ensures at c.put.ensures)))
