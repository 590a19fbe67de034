-- A number that joins a set is in it, and the others are as before. What a byte's bits do is tested for every byte. Assumes nothing.
use Rattle.std.specs.Prelude.{◌≡◌, refl, ◌≢◌, Bool, true, false, ◌&&◌, ◌||◌, List, ℕ, zero, suc, ◌+◌, ◌*◌, ◌/◌, ◌%◌, ◌^◌, ◌<◌, ltb, length, set}
use Rattle.std.proofs.Common.{sym, ◌∙◌, ap, arith, get_or-set_other, ne_eqb, eqb-true, ltb-true}
use Rattle.std.proofs.Math.Logic.{by_cases}
use Rattle.std.proofs.Math.Decide.{ℕ_discrete}
use Rattle.std.proofs.Math.Dec.{eqb}
use Rattle.std.proofs.Math.ListN.{length-set}
use Rattle.std.proofs.Math.Seq.{get_or-set_same}
use Rattle.basics.specs.Decide.{at, both}
use Rattle.bits.specs.Bits.{bit, has, joined}

-- a test of every number below n
abbrev pub all : ℕ → (ℕ → Bool) → Bool
all zero p = true
all (suc n) p = p n && all n p

-- bit s of a byte is set, or can be set: the byte stays one, bit s is then set, and bit t is as before
abbrev good : ℕ → ℕ → ℕ → Bool
good x s t = eqb (bit x s) 1 || (ltb (x + 2 ^ s) 256 && (eqb (bit (x + 2 ^ s) s) 1 && (eqb s t || eqb (bit (x + 2 ^ s) t) (bit x t))))

tested : all 256 (λ x. all 8 (λ s. all 8 (good x s))) ≡ true
tested = refl

pub all_at : (n : ℕ) (p : ℕ → Bool) (k : ℕ) → all n p ≡ true → k < n → p k ≡ true
all_at zero p k h l = absurd (omega arith)
all_at (suc n) p k h l =
    let (a, b) = both (p n) (all n p) h in
    by_cases (ℕ_discrete k n) (λ e. ap p e ∙ a) (λ e. all_at n p k b (omega arith))

-- one byte

module _ (x s : ℕ) (l : x < 256) (m : s < 8) (h : eqb (bit x s) 1 ≡ false) where
  rest : (t : ℕ) → t < 8 → (ltb (x + 2 ^ s) 256 && (eqb (bit (x + 2 ^ s) s) 1 && (eqb s t || eqb (bit (x + 2 ^ s) t) (bit x t)))) ≡ true
  rest t k = rw h at (all_at 8 (good x s) t (all_at 8 (λ u. all 8 (good x u)) s (all_at 256 (λ y. all 8 (λ u. all 8 (good y u))) x tested l) m) k)

  pub byte_fits : x + 2 ^ s < 256
  byte_fits = ltb-true _ _ (both (ltb (x + 2 ^ s) 256) _ (rest s m)).0

  pub byte_same : eqb (bit (x + 2 ^ s) s) 1 ≡ true
  byte_same = (both (eqb (bit (x + 2 ^ s) s) 1) _ (both (ltb (x + 2 ^ s) 256) _ (rest s m)).1).0

  pub byte_other : (t : ℕ) → t < 8 → t ≢ s → bit (x + 2 ^ s) t ≡ bit x t
  byte_other t k e =
      let o = (both (eqb (bit (x + 2 ^ s) s) 1) _ (both (ltb (x + 2 ^ s) 256) _ (rest t k)).1).1 in
      eqb-true _ _ (rw (ne_eqb s t (λ q. e (sym q))) at o)

-- no bit of 0 is set, and a byte holds each of its bits
zeros : all 8 (λ s. eqb (bit 0 s) 0) ≡ true
zeros = refl

powers : all 8 (λ s. eqb ((1 * 2 ^ s) % 256) (2 ^ s)) ≡ true
powers = refl

pub one_shifted : (s : ℕ) → s < 8 → (1 * 2 ^ s) % 256 ≡ 2 ^ s
one_shifted s l = eqb-true _ _ (all_at 8 (λ u. eqb ((1 * 2 ^ u) % 256) (2 ^ u)) s powers l)

low : (k : ℕ) → k % 8 < 8
low k = omega arith

-- sets

pub has_none : (bits : List ℕ) (k : ℕ) → at bits (k / 8) ≡ 0 → has bits k ≡ false
unfolding has
has_none bits k e =
    let z : bit 0 (k % 8) ≡ 0 = eqb-true _ _ (all_at 8 (λ s. eqb (bit 0 s) 0) (k % 8) zeros (low k)) in
    rw (e, z)

module _ (bits : List ℕ) (k : ℕ) (l : k < 8 * length bits) (b : at bits (k / 8) < 256) (h : has bits k ≡ false) where
  inside : k / 8 < length bits
  inside = omega (arith, l)

  free : eqb (bit (at bits (k / 8)) (k % 8)) 1 ≡ false
  unfolding has
  free = h

  pub joined_size : length (joined bits k) ≡ length bits
  unfolding joined
  joined_size = length-set bits (k / 8) _

  pub has_joined : has (joined bits k) k ≡ true
  unfolding has joined
  has_joined = rw (get_or-set_same bits (k / 8) (at bits (k / 8) + 2 ^ (k % 8)) 0 inside) (byte_same (at bits (k / 8)) (k % 8) b (low k) free)

  pub has_others : (j : ℕ) → j ≢ k → has (joined bits k) j ≡ has bits j
  unfolding has joined
  has_others j n = by_cases (ℕ_discrete (j / 8) (k / 8))
      (λ e. rw (e, get_or-set_same bits (k / 8) (at bits (k / 8) + 2 ^ (k % 8)) 0 inside) (ap (λ (y : ℕ). eqb y 1) (byte_other (at bits (k / 8)) (k % 8) b (low k) free (j % 8) (low j) (λ q. n (omega (arith, e, q))))))
      (λ e. rw (get_or-set_other bits (k / 8) (j / 8) (at bits (k / 8) + 2 ^ (k % 8)) 0 e))

  pub joined_bytes : ((i : ℕ) → at bits i < 256) → (i : ℕ) → at (joined bits k) i < 256
  unfolding joined
  joined_bytes f i = by_cases (ℕ_discrete i (k / 8))
      (λ e. rw (e, get_or-set_same bits (k / 8) (at bits (k / 8) + 2 ^ (k % 8)) 0 inside) (byte_fits (at bits (k / 8)) (k % 8) b (low k) free))
      (λ e. rw (get_or-set_other bits (k / 8) i (at bits (k / 8) + 2 ^ (k % 8)) 0 e) (f i))

-- as the machine makes them
pub join_fits : (bits : List ℕ) (k : ℕ) → at bits (k / 8) < 256 → has bits k ≡ false → at bits (k / 8) + (1 * 2 ^ (k % 8)) % 256 < 256
unfolding has
join_fits bits k b h = rw (one_shifted (k % 8) (low k)) (byte_fits (at bits (k / 8)) (k % 8) b (low k) h)

pub join_made : (bits : List ℕ) (k : ℕ) → set bits (k / 8) (at bits (k / 8) + (1 * 2 ^ (k % 8)) % 256) ≡ joined bits k
unfolding joined
join_made bits k = rw (one_shifted (k % 8) (low k))
