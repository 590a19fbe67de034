-- `text::head` meets its contract. Assumes nothing.
use Rattle.laying.specs.Laws.{adds_then}
use Rattle.text.specs.Text.{head}
use Rattle.text.proofs.head.Goals as goal

pub returns : goal.returns
unfolding head
returns c = adds_then c.decimal.ensures (adds_then c.put.ensures (adds_then c.decimal-2.ensures c.put-2.ensures))
