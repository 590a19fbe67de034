-- The bytes of the places after a write are as many as before. Assumes nothing.
use Rattle.std.specs.Prelude.{◌≡◌, List, ℕ, ◌+◌, ◌*◌, ◌≤◌, ◌<◌, length}
use Rattle.std.proofs.Common.{◌∙◌, arith}
use Rattle.measures.specs.Measures.{begins_at, bytes_at}
use Rattle.records.specs.Records.{Records}
use Rattle.records.specs.Sound.{Sound}
use Rattle.placing.specs.Placing.{put_at}
use Rattle.placing.specs.Laws.{apart, bytes_size, put_size}

module _ (width n : ℕ) (places : List ℕ) (size : length places ≡ n * width) where
  pub place_within : (p : ℕ) → p < n → begins_at width p + width ≤ length places
  place_within p l = omega (arith, size, apart width p n l)

  pub put_long : (p : ℕ) (bs : List ℕ) → p < n → length bs ≡ width → length (put_at width places p bs) ≡ n * width
  put_long p bs low b = put_size width places p bs b (place_within p low) ∙ size

-- the bytes of row r, saved to place q before they are written over
module _ (z : Records) (s : Sound z) (places : List ℕ) (size : length places ≡ z.size.places * z.size.width) (r q : ℕ) (low : q < z.size.places) (home : r < z.size.rows) where
  pub home_inside : r < z.size.places
  home_inside = omega (arith, s.measured.within.places.0)

  pub before_long : length (bytes_at z.size.width places r) ≡ z.size.width
  before_long = bytes_size z.size.width places r (place_within z.size.width z.size.places places size r home_inside)

  pub between_long : length (put_at z.size.width places q (bytes_at z.size.width places r)) ≡ z.size.places * z.size.width
  between_long = put_long z.size.width z.size.places places size q (bytes_at z.size.width places r) low before_long

  pub saved_long : (bs : List ℕ) → length bs ≡ z.size.width → length (put_at z.size.width (put_at z.size.width places q (bytes_at z.size.width places r)) r bs) ≡ z.size.places * z.size.width
  saved_long bs b = put_long z.size.width z.size.places (put_at z.size.width places q (bytes_at z.size.width places r)) between_long r bs home_inside b
