-- `laying::Writer::lay` meets its contract. Assumes nothing.
use mathlib.Core.Path.{refl}
use Rattle.laying.specs.Laws.{lays_part}
use Rattle.laying.proofs.Writer.lay.Goals as goal

pub returns : goal.returns
returns c = record { lays = lays_part _ _ _ _ c.requires c.copy_from_slice.ensures.after; lent = refl }
