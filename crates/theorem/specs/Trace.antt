-- Lists of calls on a store, each by the promise of the function that runs. Definitions only. Assumes nothing.
use Rattle.std.specs.Prelude.{◌≡◌, ◌↔◌, true, List, [], ◌∷◌, ℕ, ◌<◌}
use Rattle.measures.specs.declared.Size.{Size}
use Rattle.trees.specs.declared.Tree.{Tree}
use Rattle.records.specs.Records.{Records, records_of, table, lives, tag_place}
use Rattle.trees.specs.Trees.{used}
use Rattle.model.specs.Call.{snapshot, read, write, delete, count, Call, one, border}
use Rattle.answers.specs.Answers.{Answer, handed}
use Rattle.answers.specs.Tests.{unless}
use Rattle.model.specs.Model.{Model}
use Rattle.copies.specs.Copies.{alive, sharers, places_used}
use Rattle.counting.specs.Counting.{counted, CountEnds}
use Rattle.reads.specs.Reads.{ReadEnds, row_of_tag, sharers_of_tag}
use Rattle.edits.specs.Edits.{with_tree, Whole}
use Rattle.view.specs.View.{Store}
use Rattle.takes.specs.Taking.{snapshot_verdict, snapshot_tree, SnapshotEnds}
use Rattle.owning.specs.Owning.{Held}
use Rattle.writes.specs.Writing.{write_verdict, written, WriteEnds}
use Rattle.borders.specs.Bordering.{bordered, BorderEnds}
use Rattle.deletes.specs.Deleting.{Left, delete_verdict, deleted, DeleteEnds}

-- the records and the bytes of the places, as one call leaves them for the next
pub record State : Type 0 where
  pub records : Records
  pub places : List ℕ

abbrev pub state : Records → List ℕ → State
state z places = record { records = z; places = places }

-- what a write leaves, and a delete, as a state
abbrev pub state_held : Size → Held → State
state_held size h = state (records_of size h.tree h.node h.row) h.places

abbrev pub state_left : Size → Left → List ℕ → State
state_left size l places = state (records_of size l.tree l.node l.row) places

-- one call on a state, what it hands out, and the state it leaves: exactly what the `ensures` of snapshots::snapshot, queries::read, writing::write,
-- bordering::border, deleting::delete and counting::count say, with nothing in between; of a read, all but which part of the places it hands out
pub data CallEnds (z : Records) (places : List ℕ) : Call → Answer → State → Type 0 where
  snapshot_ends : {source new number : ℕ} {tree : Tree} → SnapshotEnds z source new number tree
      → CallEnds z places (one (snapshot source new)) (handed number [] []) (state (with_tree z tree) places)
  read_ends : {tag r number sharers : ℕ} {bytes : List ℕ} → ReadEnds z places tag r number bytes sharers
      → CallEnds z places (one (read tag r)) (handed number bytes (sharers ∷ [])) (state z places)
  write_ends : {tag r number : ℕ} {bs : List ℕ} {got : Held} → WriteEnds z places tag r bs number got
      → CallEnds z places (one (write tag r bs)) (handed number [] []) (state_held z.size got)
  border_ends : {tag number done : ℕ} {rows bytes : List ℕ} {got : Held} → BorderEnds z places tag rows bytes number done got
      → CallEnds z places (border tag rows bytes) (handed number [] (done ∷ [])) (state_held z.size got)
  delete_ends : {tag number : ℕ} {got : Left} → DeleteEnds z tag number got
      → CallEnds z places (one (delete tag)) (handed number [] []) (state_left z.size got places)
  count_ends : {number in_use alive : ℕ} → CountEnds z number in_use alive → CallEnds z places (one count) (counted number in_use alive) (state z places)

-- a list of calls, each given what the one before left, refused or not
pub data Trace : State → List Call → List Answer → State → Type 0 where
  over : {s : State} → Trace s [] [] s
  then : {s u s' : State} {c : Call} {h : Answer} {cs : List Call} {hs : List Answer} → CallEnds s.records s.places c h u → Trace u cs hs s' → Trace s (c ∷ cs) (h ∷ hs) s'

-- What a list of calls leaves, outright: a call that a test refuses leaves the state as it was, and a border what its rows leave

unfoldable pub leaves : State → Call → State
leaves s (one (snapshot source new)) =
    unless (snapshot_verdict s.records source new) (λ x. s) (state (with_tree s.records (snapshot_tree s.records.tree source new)) s.places)
leaves s (one (read tag r)) = s
leaves s (one (write tag r bs)) = unless (write_verdict s.records s.places tag r bs) (λ x. s) (state_held s.records.size (written s.records s.places tag r bs))
leaves s (one (delete tag)) = unless (delete_verdict s.records tag) (λ x. s) (state_left s.records.size (deleted s.records tag) s.places)
leaves s (one count) = s
leaves s (border tag rows bytes) = state_held s.records.size (bordered s.records s.places tag rows bytes).left

unfoldable pub left_by : State → List Call → State
left_by s [] = s
left_by s (c ∷ cs) = left_by (leaves s c) cs

-- a store as the model has it: sound records of the size that they began with, and as many bytes as that asks for; the same tags live; every row
-- of every living version reads the model's bytes; two versions read a row from one place exactly if they have one mark there, so that as many share
-- it; and as many places are in use as there are different marks
pub record Equals (size : Size) (s : State) (m : Model) : Type 0 where
  pub sized : s.records.size ≡ size
  pub store : Store s.records s.places
  pub whole : Whole s.records.tree
  pub living : (t : ℕ) → lives s.records t ≡ alive m.snapshots t
  pub rows : (t r : ℕ) → alive m.snapshots t ≡ true → r < size.rows → row_of_tag s.records s.places t r ≡ m.rows.content (t, r)
  pub sharing : (t u r : ℕ) → alive m.snapshots t ≡ true → alive m.snapshots u ≡ true → r < size.rows
      → (tag_place s.records t r ≡ tag_place s.records u r) ↔ (m.rows.mark (t, r) ≡ m.rows.mark (u, r))
  pub sharers : (t r : ℕ) → alive m.snapshots t ≡ true → r < size.rows → sharers_of_tag s.records t r ≡ sharers m.snapshots m.rows.mark t r
  pub in_use : used (table s.records) ≡ places_used size.rows m.snapshots m.rows.mark
