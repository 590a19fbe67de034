-- How long numbers in digits are, and each digit by cases. Assumes nothing.
use Rattle.std.specs.Prelude.{◌≡◌, Bool, true, false, cond, List, [], ◌∷◌, ◌++◌, ℕ, ◌+◌, ◌*◌, ◌/◌, ◌%◌, ◌≤◌, ◌<◌, ltb, length}
use Rattle.std.proofs.Common.{◌∙◌, ap, arith, lt-ltb, le-ltb, length-append}
use Rattle.laying.specs.Laid.{Lays}
use Rattle.laying.specs.Laws.{twos_size, lays_then, lays_as}
use Rattle.digits.specs.Digits.{digit, place, decimal, high_digit, low_digit, hex}

-- How long

one_or_none : (b : Bool) (x : ℕ) → length (cond b [] (x ∷ [])) ≤ 1
one_or_none true x = omega arith
one_or_none false x = omega arith

pub place_most : (p n : ℕ) → length (place p n) ≤ 1
unfolding place
place_most p n = one_or_none (ltb n p) (digit (n / p % 10))

pub decimal_most : (n : ℕ) → length (decimal n) ≤ 4
unfolding decimal
decimal_most n =
    let last : List ℕ = digit (n % 10) ∷ [] in
    omega (
      arith,
      place_most 1000 n,
      place_most 100 n,
      place_most 10 n,
      length-append (place 1000 n) (place 100 n ++ (place 10 n ++ last)),
      length-append (place 100 n) (place 10 n ++ last),
      length-append (place 10 n) last,
    )

-- A digit below 10 and one above; the digit for p, if the number has it

pub digit_low : (d : ℕ) → d < 10 → 48 + d ≡ digit d
unfolding digit
digit_low d l = rw (lt-ltb d 10 l)

pub digit_high : (d : ℕ) → 10 ≤ d → 87 + d ≡ digit d
unfolding digit
digit_high d l = rw (le-ltb d 10 l)

pub place_none : (p n : ℕ) → n < p → [] ≡ place p n
unfolding place
place_none p n l = rw (lt-ltb n p l)

pub place_some : (p n x : ℕ) → p ≤ n → x ≡ digit (n / p % 10) → x ∷ [] ≡ place p n
unfolding place
place_some p n x l e = rw (le-ltb n p l, e)

-- Bytes in base sixteen

pub hex_size : (bs : List ℕ) → length (hex bs) ≡ 2 * length bs
unfolding hex
hex_size bs = twos_size high_digit low_digit bs

-- Each laid from its digits, and the room that it takes

pub place_room : (q n : ℕ) {b : List ℕ} {p : ℕ} {a : List ℕ} {to : ℕ} → Lays b p (place q n) a to → (to ≤ p + 1) × (length a ≡ length b)
place_room q n l = (omega (arith, l.ends, place_most q n), l.size)

pub decimal_laid : (n : ℕ) {b : List ℕ} {p x : ℕ} {a₁ a₂ a₃ a : List ℕ} {to₁ to₂ to₃ to : ℕ} → x ≡ digit (n % 10)
    → Lays b p (place 1000 n) a₁ to₁ → Lays a₁ to₁ (place 100 n) a₂ to₂ → Lays a₂ to₂ (place 10 n) a₃ to₃ → Lays a₃ to₃ (x ∷ []) a to → Lays b p (decimal n) a to
unfolding decimal
decimal_laid n e x y z w = lays_then x (lays_then y (lays_then z (lays_as (ap (λ (d : ℕ). d ∷ []) e) w)))

pub decimal_room : (n : ℕ) {b : List ℕ} {p : ℕ} {a : List ℕ} {to : ℕ} → Lays b p (decimal n) a to → (to ≤ p + 4) × (length a ≡ length b)
decimal_room n l = (omega (arith, l.ends, decimal_most n), l.size)

pub hex_room : (bs : List ℕ) {b : List ℕ} {p : ℕ} {a : List ℕ} {to : ℕ} → Lays b p (hex bs) a to → (to ≡ p + 2 * length bs) × (length a ≡ length b)
hex_room bs l = (l.ends ∙ omega (arith, hex_size bs), l.size)
