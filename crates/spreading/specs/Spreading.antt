-- A row is turned back bit by bit: each hook has the bit of its position, or still 0. Assumes nothing.
use Rattle.std.specs.Prelude.{◌≡◌, refl, ◌≢◌, Bool, true, false, List, ℕ, ◌+◌, ◌*◌, ◌/◌, ◌≤◌, ◌<◌, ltb, length, replicate}
use Rattle.std.proofs.Common.{sym, ◌∙◌, ap, ap₂, arith, lt-ltb, le-ltb}
use Rattle.std.proofs.Math.Logic.{by_cases}
use Rattle.std.proofs.Math.Decide.{ℕ_discrete, dec_lt}
use Rattle.std.proofs.lemmas.List.{length-replicate}
use Rattle.basics.specs.Decide.{at}
use Rattle.laying.specs.Laws.{zeros_at}
use Rattle.hooks.specs.Order.{hook_at, position_of}
use Rattle.hooks.proofs.Laws.{hook_below, position_below, hook_of_position, position_of_hook}
use Rattle.rowbits.specs.Bits.{bit_of, row_of, Bytes, put_bit}
use Rattle.rowbits.specs.Laws.{bit_two, bit_none, row_size, row_bit, row_bytes, same_bits}
use Rattle.rowbits.specs.Putting.{put_size, put_same, put_other, put_bytes}
use Rattle.cables.specs.Cables.{from_cable}
use Rattle.cables.proofs.Laws.{turned_told}

abbrev pub or_none : Bool → ℕ → ℕ
or_none true b = b
or_none false b = 0

-- the bits of the first n positions are at their hooks, and all others are 0
unfoldable pub spread_to : ℕ → List ℕ → List ℕ
spread_to n row = row_of 128 (λ h. or_none (ltb (position_of h) n) (bit_of row (position_of h)))

module _ (row : List ℕ) where
  two : (n h : ℕ) → or_none (ltb (position_of h) n) (bit_of row (position_of h)) < 2
  two n h = go (ltb (position_of h) n)
    where
      go : (b : Bool) → or_none b (bit_of row (position_of h)) < 2
      go true = bit_two row (position_of h)
      go false = omega arith

  pub spread_size : (n : ℕ) → length (spread_to n row) ≡ 128
  unfolding spread_to
  spread_size n = row_size 128 _

  pub spread_bytes : (n : ℕ) → Bytes (spread_to n row)
  unfolding spread_to
  spread_bytes n = row_bytes 128 _ (two n)

  spread_bit : (n h : ℕ) → h < 1024 → bit_of (spread_to n row) h ≡ or_none (ltb (position_of h) n) (bit_of row (position_of h))
  unfolding spread_to
  spread_bit n h l = row_bit 128 _ (two n) h (omega arith)

  moved : (n h : ℕ) → h < 1024 → position_of h < n → bit_of (spread_to n row) h ≡ bit_of row (position_of h)
  moved n h l m = spread_bit n h l ∙ ap₂ or_none (lt-ltb _ _ m) refl

  clear : (n h : ℕ) → h < 1024 → n ≤ position_of h → bit_of (spread_to n row) h ≡ 0
  clear n h l m = spread_bit n h l ∙ ap₂ or_none (le-ltb _ _ m) refl

  -- a row is told by these two
  told : (n : ℕ) (out : List ℕ) → length out ≡ 128 → Bytes out → ((h : ℕ) → h < 1024 → position_of h < n → bit_of out h ≡ bit_of row (position_of h)) → ((h : ℕ) → h < 1024 → n ≤ position_of h → bit_of out h ≡ 0)
      → out ≡ spread_to n row
  told n out s b p q = same_bits out (spread_to n row) b (spread_bytes n) (s ∙ sym (spread_size n)) (λ h l. bit h (omega (arith, l, s)))
    where
      bit : (h : ℕ) → h < 1024 → bit_of out h ≡ bit_of (spread_to n row) h
      bit h l = by_cases (dec_lt (position_of h) n) (λ m. p h l m ∙ sym (moved n h l m)) (λ m. q h l (omega arith) ∙ sym (clear n h l (omega arith)))

  pub spread_none : replicate 128 0 ≡ spread_to 0 row
  spread_none = told 0 (replicate 128 0) (length-replicate {A = ℕ} 128 0) (λ i. omega (arith, zeros_at 128 i)) (λ h l m. absurd (omega arith)) (λ h l m. bit_none (replicate 128 0) h (zeros_at 128 (h / 8)))

  pub spread_all : spread_to 1024 row ≡ from_cable row
  spread_all = turned_told position_of row (spread_to 1024 row) (spread_size 1024) (spread_bytes 1024) (λ h l. moved 1024 h l (position_below h l))

  module _ (n : ℕ) (l : n < 1024) where
    -- the hook of the next position has no bit yet
    pub spread_room : bit_of (spread_to n row) (hook_at n) ≡ 0
    spread_room = clear n (hook_at n) (hook_below n l) (omega (arith, position_of_hook n l))

    inside : hook_at n < 8 * length (spread_to n row)
    inside = omega (arith, hook_below n l, spread_size n)

    byte : at (spread_to n row) (hook_at n / 8) < 256
    byte = spread_bytes n (hook_at n / 8)

    other : (h : ℕ) → h ≢ hook_at n → bit_of (put_bit (spread_to n row) (hook_at n) (bit_of row n)) h ≡ bit_of (spread_to n row) h
    other = put_other (spread_to n row) (hook_at n) (bit_of row n) inside byte (bit_two row n) spread_room

    here : bit_of (put_bit (spread_to n row) (hook_at n) (bit_of row n)) (hook_at n) ≡ bit_of row (position_of (hook_at n))
    here = put_same (spread_to n row) (hook_at n) (bit_of row n) inside byte (bit_two row n) spread_room ∙ ap (bit_of row) (sym (position_of_hook n l))

    apart : (h : ℕ) → h < 1024 → h ≢ hook_at n → position_of h ≢ n
    apart h m e d = e (sym (hook_of_position h m) ∙ ap hook_at d)

    pub spread_more : put_bit (spread_to n row) (hook_at n) (bit_of row n) ≡ spread_to (n + 1) row
    spread_more = told (n + 1) _
        (put_size (spread_to n row) (hook_at n) (bit_of row n) inside byte (bit_two row n) spread_room ∙ spread_size n)
        (put_bytes (spread_to n row) (hook_at n) (bit_of row n) inside byte (bit_two row n) spread_room (spread_bytes n))
        (λ h m k. by_cases (ℕ_discrete h (hook_at n)) (λ e. rw e here) (λ e. other h e ∙ moved n h m (omega (arith, apart h m e))))
        (λ h m k. other h (λ e. omega (arith, position_of_hook n l, ap position_of e)) ∙ clear n h m (omega arith))

-- one position: its bit can be put at its hook, and that is a position more
module _ (row : List ℕ) (n : ℕ) (l : n < 1024) {out : List ℕ} {hook b : ℕ} (o : out ≡ spread_to n row) (e : hook ≡ hook_at n) (d : b ≡ bit_of row n) where
  pub position_ready : (hook < 8 * length out) × (b < 2) × (bit_of out hook ≡ 0)
  position_ready = rw (o, e, d) (inside row n l, bit_two row n, spread_room row n l)

  pub position_put : put_bit out hook b ≡ spread_to (n + 1) row
  position_put = rw (o, e, d) (spread_more row n l)
