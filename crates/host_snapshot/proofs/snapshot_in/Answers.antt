-- `host_snapshot::snapshot_in` meets its contract. Assumes nothing.
use Rattle.std.proofs.lemmas.Result.{err_from_is_err_and}
use Rattle.host.specs.Laws.{kept_refused, kept_done}
use Rattle.layout.specs.Laws.{nodes_part}
use Rattle.host_snapshot.specs.Laws.{snapshot_host}
use Rattle.host_snapshot.proofs.snapshot_in.Goals as goal

pub returns-in_err-next : goal.returns-in_err-next
returns-in_err-next g c = let p = err_from_is_err_and c.from_residual.result c.from_residual.ensures.1 in
    rw (p.1, p.2) (snapshot_host c.requires.fits.0 c.size-size.ensures c.load-tree.ensures _ _ c.in_err-next.ensures (nodes_part c.args.records.now {n = c.args.n} c.requires.fits.1) (kept_refused _ _ _))

pub returns : goal.returns
returns g c = snapshot_host c.requires.fits.0 c.size-size.ensures c.load-tree.ensures _ _ c.in_ok-next.ensures (nodes_part c.args.records.now {n = c.args.n} c.requires.fits.1) (kept_done c.renew_tree.ensures)
