-- `recording::lay_tree` meets its contract. Assumes nothing.
use Rattle.laying.specs.Laws.{adds_then}
use Rattle.layout.specs.Layout.{tree_bytes}
use Rattle.recording.proofs.lay_tree.Goals as goal

pub returns : goal.returns
unfolding tree_bytes
returns c = adds_then c.lay.ensures (adds_then c.lay-2.ensures c.lay_numbers.ensures)
