-- What a delete answers and leaves, the records being bytes. Definitions only. Assumes nothing.
use Rattle.std.specs.Prelude.{List, ℕ}
use Rattle.records.specs.Records.{Records, records_of}
use Rattle.deletes.specs.Deleting.{Left, delete_verdict, deleted}
use Rattle.layout.specs.Layout.{stored, loaded}
use Rattle.host.specs.Host.{HostEnds}

abbrev pub with_left : Records → Left → Records
with_left z l = records_of z.size l.tree l.node l.row

abbrev pub HostDeletes : List ℕ → ℕ → ℕ → List ℕ → Type 0
HostDeletes b tag = HostEnds b (delete_verdict (loaded b) tag) b (stored (with_left (loaded b) (deleted (loaded b) tag)))
