-- `moving::move_row` meets its contract. Assumes nothing.
use mathlib.Core.Path.{◌∙◌}
use Rattle.owning.specs.Laws.{child_room, narrow_row, row_entry, ready_low, held_same}
use Rattle.moving.specs.Moving.{held_to_free}
use Rattle.moving.proofs.move_row.Goals as goal

pub parted-stand-requires : goal.parted-stand-requires
parted-stand-requires c = (c.requires.0.alive.0, child_room c.requires.0 c.requires.1)

pub enter-requires : goal.enter-requires
enter-requires c = (c.requires.2.0, row_entry c.requires.0 c.args.i c.requires.2, rw c.parted-stand.ensures.1 (ready_low c.args.records.now.tree c.args.v c.requires.0.alive.0), narrow_row c.requires.0)

pub returns-clause-moved : goal.returns-clause-moved
unfolding held_to_free
returns-clause-moved c = let e = c.enter.ensures.entered in
    held_same c.parted-stand.ensures.0 (e.0 ∙ rw c.parted-stand.ensures.1) e.1 (c.put.ensures ∙ rw c.held.ensures)
