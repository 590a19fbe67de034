-- A row on its way from one place to another. Assumes nothing.
use Rattle.std.specs.Prelude.{◌≡◌, List, ℕ, ◌+◌, ◌-◌, take, drop}
use Rattle.std.specs.List.{copy_within}
use Rattle.std.proofs.Common.{◌∙◌, arith, append_assoc}
use Rattle.measures.specs.Measures.{begins_at, bytes_at}
use Rattle.placing.specs.Placing.{put_at}

-- a row copied within the places
pub copied : (width : ℕ) (places : List ℕ) (p q from to : ℕ) → from ≡ begins_at width p → to ≡ begins_at width q
    → copy_within places from (from + width) to ≡ put_at width places q (bytes_at width places p)
unfolding put_at bytes_at
copied width places p q from to e f =
    let w : (from + width) - from ≡ width = omega arith in
    rw (w, e, f) (append_assoc (take (begins_at width q) places) (take width (drop (begins_at width p) places)) (drop (begins_at width q + width) places))

-- a row saved, and then another written in its place
pub renewed : (width : ℕ) (places saved written : List ℕ) (own spare : ℕ) (bs : List ℕ)
    → saved ≡ put_at width places spare (bytes_at width places own) → written ≡ put_at width saved own bs
    → written ≡ put_at width (put_at width places spare (bytes_at width places own)) own bs
renewed width places saved written own spare bs e f = f ∙ rw e
