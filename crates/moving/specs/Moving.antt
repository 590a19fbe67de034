-- What a write of a shared row of a snapshot leaves. Definitions only. Assumes nothing.
use Rattle.std.specs.Prelude.{List, ℕ, ◌+◌, set}
use Rattle.records.specs.Records.{Records}
use Rattle.placing.specs.Placing.{put_at}
use Rattle.owning.specs.Owning.{Held, held, parted_tree, parted_node}

module _ (z : Records) (places : List ℕ) (r : ℕ) (bs : List ℕ) where
  -- a shared row of the snapshot at node v: to the free place of entry i
  unfoldable pub held_to_free : ℕ → ℕ → Held
  held_to_free v i = held (parted_tree z.tree v) (set z.node i (parted_node z.tree v)) (set z.row i r) (put_at z.size.width places (z.size.rows + i) bs)
