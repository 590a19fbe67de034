-- What a write of a shared row of the origin leaves. Definitions only. Assumes nothing.
use Rattle.std.specs.Prelude.{List, ℕ, ◌+◌, set}
use Rattle.std.proofs.Math.Option.{Option, none, some}
use Rattle.measures.specs.Measures.{bytes_at}
use Rattle.records.specs.Records.{Records}
use Rattle.placing.specs.Placing.{put_at}
use Rattle.owning.specs.Owning.{Held, held}

module _ (z : Records) (places : List ℕ) (r : ℕ) (bs : List ℕ) where
  -- a shared row of the origin: the old bytes saved in the place of entry i for node 0's child, then written in its own place
  unfoldable pub saving : ℕ → ℕ → Held
  saving c i = held z.tree (set z.node i c) (set z.row i r)
      (put_at z.size.width (put_at z.size.width places (z.size.rows + i) (bytes_at z.size.width places r)) r bs)

  abbrev pub saving_by : Option ℕ → ℕ → Held
  saving_by none i = held z.tree z.node z.row places
  saving_by (some c) i = saving c i
