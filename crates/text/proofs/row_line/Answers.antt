-- `text::row_line` meets its contract. Assumes nothing.
use Rattle.laying.specs.Laws.{adds_then}
use Rattle.text.specs.Text.{line}
use Rattle.text.proofs.row_line.Goals as goal

pub returns : goal.returns
unfolding line
returns c = adds_then c.head.ensures (adds_then c.row.ensures c.put.ensures)
