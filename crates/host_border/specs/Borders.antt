-- What a border answers and leaves of records and places, the records being bytes. Definitions only. Assumes nothing.
use Rattle.std.specs.Prelude.{cond, List, ℕ, eqb}
use Rattle.records.specs.Records.{Records, records_of}
use Rattle.answers.specs.declared.Refusal.TheVariants.{Unsound}
use Rattle.answers.specs.InOrder.{Ended, stopped}
use Rattle.owning.specs.Owning.{Held}
use Rattle.borders.specs.Bordering.{bordered, Ends}
use Rattle.layout.specs.Layout.{stored, loaded}
use Rattle.host.specs.Host.{Host, Lent}

-- the record bytes after it: those that were there, if no row was done
abbrev pub bytes_after : List ℕ → ℕ → List ℕ → List ℕ
bytes_after old done new = cond (eqb done 0) old new

abbrev pub lent_as : List ℕ → Records → Ended Held → Ended Lent
lent_as b z e = record {
  done = e.done;
  refusal = e.refusal;
  left = (bytes_after b e.done (stored (records_of z.size e.left.tree e.left.node e.left.row)), e.left.places);
}

abbrev pub HostBorders : List ℕ → List ℕ → ℕ → List ℕ → List ℕ → ℕ → ℕ → Lent → Type 0
HostBorders b places tag rows bytes number done got =
    Host b (Ends (lent_as b (loaded b) (bordered (loaded b) places tag rows bytes)) number done got) (Ends (stopped (b, places) Unsound) number done got)
