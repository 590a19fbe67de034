-- What a snapshot answers and leaves, the records being bytes. Definitions only. Assumes nothing.
use Rattle.std.specs.Prelude.{List, ℕ}
use Rattle.trees.specs.declared.Tree.{Tree}
use Rattle.records.specs.Records.{Records, records_of}
use Rattle.takes.specs.Taking.{snapshot_verdict, snapshot_tree}
use Rattle.layout.specs.Layout.{stored, loaded}
use Rattle.host.specs.Host.{HostEnds}

abbrev pub with_tree : Records → Tree → Records
with_tree z t = records_of z.size t z.node z.row

abbrev pub HostSnapshots : List ℕ → ℕ → ℕ → ℕ → List ℕ → Type 0
HostSnapshots b source new =
    HostEnds b (snapshot_verdict (loaded b) source new) b (stored (with_tree (loaded b) (snapshot_tree (loaded b).tree source new)))
