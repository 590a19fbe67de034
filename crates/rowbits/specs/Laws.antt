-- A row that is made of bits has them, and a row is told by its bits. Assumes nothing.
use Rattle.std.specs.Prelude.{◌≡◌, refl, true, List, length, eqb}
use Rattle.std.proofs.Math.Path.{sym, ap}
use Rattle.std.proofs.Common.{◌∙◌, ap₂, shr-shr, ext_get_or, eqb-true}
use Rattle.std.proofs.Math.Logic.{by_cases}
use Prim.Native.Nat.{ℕ, zero, suc, ◌+◌, ◌-◌, ◌*◌, ◌/◌, ◌%◌, ◌^◌, ◌≤◌, ◌<◌}
use Rattle.std.proofs.Math.Decide.{dec_lt}
use Rattle.std.proofs.Math.Nat.{zero-div}
use native.Mathlib.Omega.{arith}
use Rattle.std.proofs.Math.ListN.{get_or-eq_default}
use Rattle.basics.specs.Decide.{at}
use Rattle.bits.specs.Bits.{bit}
use Rattle.bits.specs.Laws.{all, all_at}
use Rattle.rowbits.specs.Bits.{bit_of, binary, row_of, Bytes}

pub bit_two : (row : List ℕ) (n : ℕ) → bit_of row n < 2
unfolding bit_of
bit_two row n = omega arith

-- a byte of 0 has no bit
pub bit_none : (row : List ℕ) (n : ℕ) → at row (n / 8) ≡ 0 → bit_of row n ≡ 0
unfolding bit_of
bit_none row n e = ap (λ (x : ℕ). x / 2 ^ (7 - n % 8) % 2) e ∙ ap (λ (x : ℕ). x % 2) (zero-div (2 ^ (7 - n % 8)))

-- digits

binary_same : (f g : ℕ → ℕ) (k : ℕ) → ((i : ℕ) → i < k → f i ≡ g i) → binary f k ≡ binary g k
unfolding binary
binary_same f g zero e = refl
binary_same f g (suc k) e = ap₂ (λ (x y : ℕ). x * 2 + y) (binary_same f g k (λ i l. e i (omega arith))) (e k (omega arith))

pub binary_none : (f : ℕ → ℕ) → binary f 0 ≡ 0
unfolding binary
binary_none f = refl

pub binary_more : (f : ℕ → ℕ) (k : ℕ) → binary f (suc k) ≡ binary f k * 2 + f k
unfolding binary
binary_more f k = refl

module _ (f : ℕ → ℕ) (two : (i : ℕ) → f i < 2) where
  pub binary_below : (k : ℕ) → binary f k < 2 ^ k
  unfolding binary
  binary_below zero = omega arith
  binary_below (suc k) = omega (arith, binary_below k, two k)

  -- without its last j digits it has those before
  binary_front : (k j : ℕ) → binary f (j + k) / 2 ^ j ≡ binary f k
  unfolding binary
  binary_front k zero = omega (arith, ap (binary f) (let e : 0 + k ≡ k = omega arith in e))
  binary_front k (suc j) =
      let half : (binary f (j + k) * 2 + f (j + k)) / 2 ^ 1 ≡ binary f (j + k) = omega (arith, two (j + k)) in
      ap (λ (m : ℕ). binary f m / 2 ^ suc j) (let e : suc j + k ≡ suc (j + k) = omega arith in e)
      ∙ ap (λ (m : ℕ). binary f (suc (j + k)) / 2 ^ m) (let e : suc j ≡ 1 + j = omega arith in e)
      ∙ sym (shr-shr (binary f (suc (j + k))) 1 j)
      ∙ ap (λ (m : ℕ). m / 2 ^ j) half
      ∙ binary_front k j

  -- digit k of a byte
  binary_digit : (k : ℕ) → k < 8 → bit (binary f 8) (7 - k) ≡ f k
  binary_digit k l =
      ap (λ (m : ℕ). binary f m / 2 ^ (7 - k) % 2) (let e : 8 ≡ 7 - k + suc k = omega arith in e)
      ∙ ap (λ (m : ℕ). m % 2) (binary_front (suc k) (7 - k) ∙ binary_more f k)
      ∙ (let e : (binary f k * 2 + f k) % 2 ≡ f k = omega (arith, two k) in e)

-- rows

pub row_size : (n : ℕ) (f : ℕ → ℕ) → length (row_of n f) ≡ n
unfolding row_of
row_size zero f = refl
row_size (suc n) f = ap suc (row_size n (λ i. f (8 + i)))

pub row_byte : (n : ℕ) (f : ℕ → ℕ) (j : ℕ) → j < n → at (row_of n f) j ≡ binary (λ k. f (8 * j + k)) 8
unfolding row_of
row_byte zero f j l = absurd (omega arith)
row_byte (suc n) f zero l = binary_same _ _ 8 (λ i k. ap f (omega arith))
row_byte (suc n) f (suc j) l = row_byte n (λ i. f (8 + i)) j (omega arith) ∙ binary_same _ _ 8 (λ i k. ap f (omega arith))

pub row_bit : (n : ℕ) (f : ℕ → ℕ) → ((i : ℕ) → f i < 2) → (i : ℕ) → i < 8 * n → bit_of (row_of n f) i ≡ f i
unfolding bit_of
row_bit n f two i l =
    ap (λ (x : ℕ). bit x (7 - i % 8)) (row_byte n f (i / 8) (omega arith))
    ∙ binary_digit (λ k. f (8 * (i / 8) + k)) (λ k. two (8 * (i / 8) + k)) (i % 8) (omega arith)
    ∙ ap f (omega arith)

pub row_bytes : (n : ℕ) (f : ℕ → ℕ) → ((i : ℕ) → f i < 2) → Bytes (row_of n f)
row_bytes n f two i = by_cases (dec_lt i n)
    (λ l. rw (row_byte n f i l) (binary_below (λ k. f (8 * i + k)) (λ k. two (8 * i + k)) 8))
    (λ l. rw (get_or-eq_default (row_of n f) 0 {n = i} (let e : length (row_of n f) ≤ i = omega (arith, row_size n f) in e)) (omega arith))

-- a byte is told by its bits
told : all 256 (λ x. eqb (binary (λ k. bit x (7 - k)) 8) x) ≡ true
unfolding binary
told = refl

byte_told : (x : ℕ) → x < 256 → binary (λ k. bit x (7 - k)) 8 ≡ x
byte_told x l = eqb-true _ _ (all_at 256 (λ y. eqb (binary (λ k. bit y (7 - k)) 8) y) x told l)

pub same_bits : (a b : List ℕ) → Bytes a → Bytes b → length a ≡ length b → ((i : ℕ) → i < 8 * length a → bit_of a i ≡ bit_of b i) → a ≡ b
unfolding bit_of
same_bits a b p q s e = ext_get_or 0 a b s (λ j l. sym (byte_told (at a j) (p j)) ∙ binary_same _ _ 8 (digit j l) ∙ byte_told (at b j) (q j))
  where
    digit : (j : ℕ) → j < length a → (k : ℕ) → k < 8 → bit (at a j) (7 - k) ≡ bit (at b j) (7 - k)
    digit j l k m =
        let d : (8 * j + k) / 8 ≡ j = omega arith in
        let r : (8 * j + k) % 8 ≡ k = omega arith in
        rw (d, r) at (e (8 * j + k) (omega arith))
