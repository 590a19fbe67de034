-- `host_read::read_in` meets its contract. Assumes nothing.
use Rattle.records.specs.Records.{records_of}
use Rattle.reads.proofs.Sizes.{read_size}
use Rattle.layout.specs.Laws.{nodes_part}
use Rattle.host_read.specs.Laws.{read_host}
use Rattle.host_read.proofs.read_in.Goals as goal

pub copy_row-requires : goal.copy_row-requires
copy_row-requires g c = λ e. read_size (records_of _ _ _ _) _ _ _ c.read-lent.ensures.ends e

pub returns : goal.returns
returns g c = let y = c.requires.fits in
    read_host y.0 c.size-size.ensures c.load-tree.ensures _ _ _ c.read-lent.ensures.ends (nodes_part c.args.records.now {n = c.args.n} y.1) c.copy_row.ensures
