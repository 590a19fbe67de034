-- `text::row` meets its contract. Assumes nothing.
use Rattle.laying.specs.Laws.{adds_then}
use Rattle.text.specs.Text.{row_text}
use Rattle.text.proofs.row.Goals as goal

pub returns : goal.returns
unfolding row_text
returns c = adds_then c.hex.ensures (adds_then c.put.ensures c.decimal.ensures)
