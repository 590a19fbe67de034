-- A bit that is put where 0 was stands there, and the others are as before. Assumes nothing.
use Rattle.std.specs.Prelude.{◌≡◌, ◌≢◌, false, List, ℕ, zero, suc, ◌+◌, ◌-◌, ◌*◌, ◌/◌, ◌%◌, ◌^◌, ◌<◌, eqb, length, set}
use Rattle.std.proofs.Common.{◌∙◌, arith, eqb-true}
use Rattle.std.proofs.Math.Path.{ap}
use Rattle.std.proofs.Math.Logic.{by_cases}
use Rattle.std.proofs.Math.Decide.{ℕ_discrete}
use Rattle.std.proofs.Math.ListN.{length-set}
use Rattle.std.proofs.Math.Seq.{get_or-set_same, get_or-set_other}
use Rattle.basics.specs.Decide.{at}
use Rattle.bits.specs.Bits.{bit}
use Rattle.bits.specs.Laws.{byte_fits, byte_same, byte_other, one_shifted}
use Rattle.rowbits.specs.Bits.{bit_of, Bytes, byte_with, put_bit}

-- one byte

module _ (x s : ℕ) (l : x < 256) (m : s < 8) (z : bit x s ≡ 0) where
  clear : eqb (bit x s) 1 ≡ false
  clear = rw z

  none : x + 0 * 2 ^ s ≡ x
  none = omega arith

  one : x + 1 * 2 ^ s ≡ x + 2 ^ s
  one = omega arith

  -- the byte with b put there: it stays one, bit s is b, and the others are as before
  sum_fits : (b : ℕ) → b < 2 → x + b * 2 ^ s < 256
  sum_fits zero k = omega arith
  sum_fits (suc zero) k = omega (arith, byte_fits x s l m clear)
  sum_fits (suc (suc b)) k = absurd (omega arith)

  sum_same : (b : ℕ) → b < 2 → bit (x + b * 2 ^ s) s ≡ b
  sum_same zero k = ap (λ (y : ℕ). bit y s) none ∙ z
  sum_same (suc zero) k = ap (λ (y : ℕ). bit y s) one ∙ eqb-true _ 1 (byte_same x s l m clear)
  sum_same (suc (suc b)) k = absurd (omega arith)

  sum_other : (b : ℕ) → b < 2 → (t : ℕ) → t < 8 → t ≢ s → bit (x + b * 2 ^ s) t ≡ bit x t
  sum_other zero k t h e = ap (λ (y : ℕ). bit y t) none
  sum_other (suc zero) k t h e = ap (λ (y : ℕ). bit y t) one ∙ byte_other x s l m clear t h e
  sum_other (suc (suc b)) k t h e = absurd (omega arith)

-- a bit that is moved up stays in its byte
shifted : (b s : ℕ) → b < 2 → s < 8 → (b * 2 ^ s) % 256 ≡ b * 2 ^ s
shifted zero s k m = omega arith
shifted (suc zero) s k m = one_shifted s m ∙ (let e : 2 ^ s ≡ 1 * 2 ^ s = omega arith in e)
shifted (suc (suc b)) s k m = absurd (omega arith)

-- rows

module _ (row : List ℕ) (n b : ℕ) (inside : n < 8 * length row) (byte : at row (n / 8) < 256) (two : b < 2) (none : bit_of row n ≡ 0) where
  none_there : bit (at row (n / 8)) (7 - n % 8) ≡ 0
  unfolding bit_of
  none_there = none

  fits : byte_with row n b < 256
  fits = sum_fits (at row (n / 8)) (7 - n % 8) byte (omega arith) none_there b two

  there : at (put_bit row n b) (n / 8) ≡ byte_with row n b
  unfolding put_bit
  there = get_or-set_same row (n / 8) (byte_with row n b) 0 (omega arith)

  elsewhere : (i : ℕ) → i ≢ n / 8 → at (put_bit row n b) i ≡ at row i
  unfolding put_bit
  elsewhere i e = get_or-set_other row (n / 8) i (byte_with row n b) 0 e

  pub put_size : length (put_bit row n b) ≡ length row
  unfolding put_bit
  put_size = length-set row (n / 8) (byte_with row n b)

  pub put_same : bit_of (put_bit row n b) n ≡ b
  unfolding bit_of
  put_same = ap (λ (y : ℕ). bit y (7 - n % 8)) there ∙ sum_same (at row (n / 8)) (7 - n % 8) byte (omega arith) none_there b two

  pub put_other : (j : ℕ) → j ≢ n → bit_of (put_bit row n b) j ≡ bit_of row j
  unfolding bit_of
  put_other j d = by_cases (ℕ_discrete (j / 8) (n / 8))
      (λ e. rw (e, there) (sum_other (at row (n / 8)) (7 - n % 8) byte (omega arith) none_there b two (7 - j % 8) (omega arith) (λ q. d (omega (arith, e, q)))))
      (λ e. ap (λ (y : ℕ). bit y (7 - j % 8)) (elsewhere (j / 8) e))

  pub put_bytes : Bytes row → Bytes (put_bit row n b)
  put_bytes f i = by_cases (ℕ_discrete i (n / 8)) (λ e. rw (e, there) fits) (λ e. rw (elsewhere i e) (f i))

  -- as the machine makes it
  pub put_fits : at row (n / 8) + (b * 2 ^ (7 - n % 8)) % 256 < 256
  put_fits = rw (shifted b (7 - n % 8) two (omega arith)) fits

  pub put_made : set row (n / 8) (at row (n / 8) + (b * 2 ^ (7 - n % 8)) % 256) ≡ put_bit row n b
  unfolding put_bit
  put_made = rw (shifted b (7 - n % 8) two (omega arith))
