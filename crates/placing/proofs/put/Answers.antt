-- `placing::put` meets its contract: the stretch of the place comes back with the row in it. Assumes nothing.
use Rattle.placing.specs.Laws.{put_stretch}
use Rattle.placing.proofs.put.Goals as goal

pub returns : goal.returns
returns c = put_stretch _ _ _ _ _ _ c.offset-from.ensures c.copy_from_slice.ensures.after
