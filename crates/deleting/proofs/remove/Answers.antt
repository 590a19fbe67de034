-- `deleting::remove` meets its contract. Assumes nothing.
use mathlib.Core.Path.{◌∙◌}
use Rattle.deletes.proofs.Laws.{thin_low, left_same}
use Rattle.deletes.specs.Deleting.{deleted_at}
use Rattle.removal.proofs.FreedLists.{freed_only}
use Rattle.records.specs.Records.{table}
use Rattle.records.specs.Lent.{lent}
use Rattle.deleting.proofs.remove.Goals as goal

pub settled-records-requires : goal.settled-records-requires
settled-records-requires c = rw (c.pruned-stand.ensures.1, c.ghosted-gone.ensures) (thin_low c.requires.0)

pub returns-clause-removed : goal.returns-clause-removed
unfolding deleted_at
returns-clause-removed c = let z = lent c.args.records.now in
    let l = freed_only z.tree (table z) c.args.v _ _ c.free_alone.ensures.freed in
    left_same (c.settled-records.ensures.0 ∙ rw (c.pruned-stand.ensures.0, c.pruned-stand.ensures.1, c.ghosted-gone.ensures)) (c.settled-records.ensures.1 ∙ rw (c.pruned-stand.ensures.0, c.pruned-stand.ensures.1, c.ghosted-gone.ensures, l.0)) l.1
