-- `text::pair` meets its contract. Assumes nothing.
use Rattle.laying.specs.Laws.{adds_then}
use Rattle.text.specs.Text.{pair_text}
use Rattle.text.proofs.pair.Goals as goal

pub returns : goal.returns
unfolding pair_text
returns c = adds_then c.decimal.ensures (adds_then c.put.ensures c.decimal-2.ensures)
