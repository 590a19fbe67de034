-- What a write answers and leaves of records and places, the records being bytes. Definitions only. Assumes nothing.
use Rattle.std.specs.Prelude.{List, ℕ}
use Rattle.records.specs.Records.{Records, records_of}
use Rattle.owning.specs.Owning.{Held}
use Rattle.writes.specs.Writing.{write_verdict, written}
use Rattle.layout.specs.Layout.{stored, loaded}
use Rattle.host.specs.Host.{HostEnds, Lent}

abbrev pub held_as : Records → Held → Lent
held_as z h = (stored (records_of z.size h.tree h.node h.row), h.places)

abbrev pub HostWrites : List ℕ → List ℕ → ℕ → ℕ → List ℕ → ℕ → Lent → Type 0
HostWrites b places tag r bs = HostEnds b (write_verdict (loaded b) places tag r bs) (b, places) (held_as (loaded b) (written (loaded b) places tag r bs))
