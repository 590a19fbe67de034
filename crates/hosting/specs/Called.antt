-- Lists of calls from C on a store's two buffers, each by the promise of the function that runs. Definitions only. Assumes nothing.
use Rattle.std.specs.Prelude.{cond, List, [], ◌∷◌, ℕ, eqb, length}
use Rattle.measures.specs.declared.Size.{Size}
use Rattle.answers.specs.Answers.{Answer, handed}
use Rattle.counting.specs.Counting.{counted}
use Rattle.model.specs.Model.{Model}
use Rattle.theorem.specs.Trace.{state, Equals}
use Rattle.layout.specs.Layout.{loaded, Fits}
use Rattle.host_snapshot.specs.Snapshots.{HostSnapshots}
use Rattle.host_read.specs.Reads.{HostReads}
use Rattle.host_write.specs.Writes.{HostWrites}
use Rattle.host_border.specs.Borders.{HostBorders}
use Rattle.host_delete.specs.Deletes.{HostDeletes}
use Rattle.host_count.specs.Counts.{HostCounts}
use Rattle.hosting.specs.Calls.{HostCall, snapshot, read, write, border, delete, count}

-- the row that a read hands out: what lies in the bytes lent for it, if it was accepted
unfoldable pub row_in : ℕ → List ℕ → List ℕ
row_in number out = cond (eqb number 0) out []

-- one call on record bytes and places, what it hands out, and what it leaves of both: exactly what the `ensures` of rowstore_snapshot,
-- rowstore_read, rowstore_write, rowstore_border, rowstore_delete and rowstore_count say
pub data HostCallEnds (b places : List ℕ) : HostCall → Answer → List ℕ → List ℕ → Type 0 where
  snapshot_ends : {source new number : ℕ} {b' : List ℕ} → HostSnapshots b source new number b' → HostCallEnds b places (snapshot source new) (handed number [] []) b' places
  read_ends : {tag r number sharers : ℕ} {out out' : List ℕ} → HostReads b places tag r out number (out', sharers)
      → HostCallEnds b places (read tag r (length out)) (handed number (row_in number out') (sharers ∷ [])) b places
  write_ends : {tag r number : ℕ} {bs b' places' : List ℕ} → HostWrites b places tag r bs number (b', places') → HostCallEnds b places (write tag r bs) (handed number [] []) b' places'
  border_ends : {tag number done : ℕ} {rows bytes b' places' : List ℕ} → HostBorders b places tag rows bytes number done (b', places')
      → HostCallEnds b places (border tag rows bytes) (handed number [] (done ∷ [])) b' places'
  delete_ends : {tag number : ℕ} {b' : List ℕ} → HostDeletes b tag number b' → HostCallEnds b places (delete tag) (handed number [] []) b' places
  count_ends : {number in_use alive : ℕ} → HostCounts b number in_use alive → HostCallEnds b places count (counted number in_use alive) b places

-- a list of calls, each given the bytes that the one before left, refused or not
pub data HostTrace : List ℕ → List ℕ → List HostCall → List Answer → List ℕ → List ℕ → Type 0 where
  over : {b places : List ℕ} → HostTrace b places [] [] b places
  then : {b places b₁ places₁ b' places' : List ℕ} {c : HostCall} {h : Answer} {cs : List HostCall} {hs : List Answer} → HostCallEnds b places c h b₁ places₁
      → HostTrace b₁ places₁ cs hs b' places' → HostTrace b places (c ∷ cs) (h ∷ hs) b' places'

-- bytes as the model has them: as many as their measures ask for, and loaded as what the model has
pub record Holds (size : Size) (b places : List ℕ) (m : Model) : Type 0 where
  pub fits : Fits b
  pub equals : Equals size (state (loaded b) places) m
