-- What becomes of a row that may be written. Definitions only. Assumes nothing.
use Rattle.std.specs.Prelude.{cond, List, ℕ}
use Rattle.records.specs.Records.{Records, table}
use Rattle.trees.specs.Reading.{place}
use Rattle.placing.specs.Placing.{put_at}
use Rattle.sharing.specs.Sharing.{free_entry, shared_at}
use Rattle.owning.specs.Owning.{Held, held}
use Rattle.writes.specs.Unsharing.{shared_to}

module _ (z : Records) (places : List ℕ) (r : ℕ) (bs : List ℕ) where
  -- an unshared row: in its own place
  unfoldable pub held_in_place : ℕ → Held
  held_in_place v = held z.tree z.node z.row (put_at z.size.width places (place z.tree (table z) v r) bs)

  unfoldable pub written_at : ℕ → Held
  written_at v = cond (shared_at z.tree (table z) v r) (shared_to z places r bs v (free_entry z.node)) (held_in_place v)
