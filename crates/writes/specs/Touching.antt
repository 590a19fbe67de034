-- A row that is written as it is already: nothing is done, and 24 is not answered. Definitions only. Assumes nothing.
use Rattle.std.specs.Prelude.{Bool, false, not, ◌&&◌, cond, List, [], ◌∷◌, ℕ, leb}
use Rattle.std.proofs.Math.Option.{Option, none, some}
use Rattle.basics.specs.Equal.{equal}
use Rattle.measures.specs.Measures.{bytes_at}
use Rattle.records.specs.Records.{Records, table}
use Rattle.trees.specs.Trees.{used}
use Rattle.trees.specs.Reading.{place}
use Rattle.answers.specs.declared.Refusal.TheVariants.{PlacesFull}
use Rattle.answers.specs.Tests.{Tests}
use Rattle.owning.specs.Owning.{Held, held}
use Rattle.writes.specs.Unsharing.{shared_by}
use Rattle.writes.specs.Storing.{written_at}

module _ (z : Records) (places : List ℕ) (r : ℕ) (bs : List ℕ) where
  -- the version at node v reads these bytes at row r
  unfoldable pub untouched_at : ℕ → Bool
  untouched_at v = equal bs (bytes_at z.size.width places (place z.tree (table z) v r))

  abbrev pub untouched_by : Option ℕ → Bool
  untouched_by none = false
  untouched_by (some v) = untouched_at v

  unfoldable pub saved_at : ℕ → Held
  saved_at v = cond (untouched_at v) (held z.tree z.node z.row places) (written_at z places r bs v)

-- the last test of a write: the row is shared, every place is in use, and the bytes differ
unfoldable pub room_test : Records → List ℕ → Option ℕ → ℕ → List ℕ → Tests
room_test z places v r bs = (shared_by z v r && leb z.size.places (used (table z)) && not (untouched_by z places r bs v), PlacesFull) ∷ []
