-- `host_count::count_in` meets its contract. Assumes nothing.
use Rattle.layout.specs.Laws.{nodes_part}
use Rattle.host_count.specs.Laws.{count_host}
use Rattle.host_count.proofs.count_in.Goals as goal

pub returns : goal.returns
returns g c = count_host c.requires.fits.0 c.size-size.ensures c.load-tree.ensures c.count.ensures (nodes_part c.args.records.now {n = c.args.n} c.requires.fits.1)
