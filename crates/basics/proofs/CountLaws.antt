-- Laws of Count: sums, then counts, then the first that passes, then different numbers below a bound. Assumes nothing.
use Rattle.std.proofs.Math.Path.{◌≡◌, refl, ap}
use Rattle.std.proofs.Common.{sym, ◌∙◌, add-one, eq-eqb, eqb-true}
use Rattle.std.specs.Prelude.{◌≢◌, Bool, eqb}
use Rattle.std.proofs.Math.Logic.{by_cases}
use Rattle.std.proofs.Math.Bool.{true, false}
use Rattle.std.proofs.lemmas.Bool.{false≢true}
use Rattle.std.proofs.Math.Option.{Option, none, some}
use Prim.Native.Nat.{ℕ, zero, suc, ◌+◌, ◌≤◌, ◌<◌}
use native.Mathlib.Decide.{ℕ_discrete}
use native.Mathlib.Omega.{arith}
use Rattle.basics.specs.Count.{sum, one, count, found, first}

-- Sums

module _ (f g : ℕ → ℕ) where
  pub sum_cong : (n : ℕ) → ((k : ℕ) → k < n → f k ≡ g k) → sum f n ≡ sum g n
  unfolding sum
  sum_cong zero h = refl
  sum_cong (suc n) h = omega (arith, sum_cong n (λ k l. h k (omega arith)), h n (omega arith))

  pub sum_mono : (n : ℕ) → ((k : ℕ) → k < n → f k ≤ g k) → sum f n ≤ sum g n
  unfolding sum
  sum_mono zero h = omega arith
  sum_mono (suc n) h = omega (arith, sum_mono n (λ k l. h k (omega arith)), h n (omega arith))

  pub sum_add : (n : ℕ) → sum (λ k. f k + g k) n ≡ sum f n + sum g n
  unfolding sum
  sum_add zero = refl
  sum_add (suc n) = omega (arith, sum_add n)

module _ (f : ℕ → ℕ) where
  pub sum_zero : (n : ℕ) → ((k : ℕ) → k < n → f k ≡ 0) → sum f n ≡ 0
  unfolding sum
  sum_zero zero h = refl
  sum_zero (suc n) h = omega (arith, sum_zero n (λ k l. h k (omega arith)), h n (omega arith))

  pub sum_ones : (n : ℕ) → ((k : ℕ) → k < n → f k ≡ 1) → sum f n ≡ n
  unfolding sum
  sum_ones zero h = refl
  sum_ones (suc n) h = omega (arith, sum_ones n (λ k l. h k (omega arith)), h n (omega arith))

  -- one term is at most the sum, and so are two
  pub sum_term : (n k : ℕ) → k < n → f k ≤ sum f n
  unfolding sum
  sum_term zero k l = absurd (omega arith)
  sum_term (suc n) k l = by_cases (ℕ_discrete k n) (λ e. omega (arith, ap f e)) (λ e. omega (arith, sum_term n k (omega arith)))

  pub sum_terms : (n a b : ℕ) → a < b → b < n → f a + f b ≤ sum f n
  unfolding sum
  sum_terms zero a b h l = absurd (omega arith)
  sum_terms (suc n) a b h l = by_cases (ℕ_discrete b n)
      (λ e. omega (arith, ap f e, sum_term n a (omega arith)))
      (λ e. omega (arith, sum_terms n a b h (omega arith)))

  -- a sum above 0 has a term above 0
  pub sum_some : (n : ℕ) → 0 < sum f n → (k : ℕ) × (k < n) × (0 < f k)
  unfolding sum
  sum_some zero h = absurd (omega arith)
  sum_some (suc n) h = by_cases (ℕ_discrete (f n) 0)
      (λ e. let (k, l, g) = sum_some n (omega arith) in (k, omega arith, g))
      (λ e. (n, omega arith, omega arith))

pub sum_swap : (a : ℕ → ℕ → ℕ) (n m : ℕ) → sum (λ i. sum (λ j. a i j) m) n ≡ sum (λ j. sum (λ i. a i j) n) m
unfolding sum
sum_swap a zero m = sym (sum_zero (λ j. 0) m (λ k l. refl))
sum_swap a (suc n) m = omega (arith, sum_swap a n m, sum_add (λ j. sum (λ i. a i j) n) (λ j. a n j) m)

-- Counts

pub one_yes : {b : Bool} → b ≡ true → one b ≡ 1
unfolding one
one_yes e = rw e

pub one_no : {b : Bool} → b ≡ false → one b ≡ 0
unfolding one
one_no e = rw e

pub one_most : (b : Bool) → one b ≤ 1
unfolding one
one_most true = omega arith
one_most false = omega arith

pub one_true : (b : Bool) → 0 < one b → b ≡ true
unfolding one
one_true true h = refl
one_true false h = absurd (omega arith)

module _ (t : ℕ → Bool) where
  pub count_none : count t 0 ≡ 0
  unfolding count sum
  count_none = refl

  pub count_next : (n : ℕ) → count t (n + 1) ≡ count t n + one (t n)
  unfolding count sum
  count_next n = rw (add-one n)

  pub count_yes : (n : ℕ) → t n ≡ true → count t (n + 1) ≡ count t n + 1
  count_yes n e = omega (arith, count_next n, one_yes e)

  pub count_no : (n : ℕ) → t n ≡ false → count t (n + 1) ≡ count t n
  count_no n e = omega (arith, count_next n, one_no e)

  pub count_most : (n : ℕ) → count t n ≤ n
  unfolding count
  count_most n = omega (arith, sum_mono (λ k. one (t k)) (λ k. 1) n (λ k l. one_most (t k)), sum_ones (λ k. 1) n (λ k l. refl))

  -- two that pass
  pub count_two : (n a b : ℕ) → a < n → b < n → a ≢ b → t a ≡ true → t b ≡ true → 2 ≤ count t n
  unfolding count
  count_two n a b h l e p q = by_cases (native.Mathlib.Decide.dec_lt a b)
      (λ s. omega (arith, sum_terms (λ k. one (t k)) n a b s l, one_yes p, one_yes q))
      (λ s. omega (arith, sum_terms (λ k. one (t k)) n b a (omega arith) h, one_yes p, one_yes q))

  pub count_some : (n : ℕ) → 0 < count t n → (k : ℕ) × (k < n) × (t k ≡ true)
  unfolding count
  count_some n h = let (k, l, e) = sum_some (λ k. one (t k)) n h in (k, l, one_true (t k) e)

  pub count_has : (n k : ℕ) → k < n → t k ≡ true → 0 < count t n
  unfolding count
  count_has n k l e = omega (arith, sum_term (λ k. one (t k)) n k l, one_yes e)

  -- where two are counted, two different ones pass
  pub count_pair : (n : ℕ) → 2 ≤ count t n → (a : ℕ) × (b : ℕ) × (a < n) × (b < n) × (a ≢ b) × (t a ≡ true) × (t b ≡ true)
  unfolding count sum
  count_pair zero h = absurd (omega arith)
  count_pair (suc n) h = go (t n) refl (count_pair n)
    where
      Pair : ℕ → Type 0
      Pair n = (a : ℕ) × (b : ℕ) × (a < n) × (b < n) × (a ≢ b) × (t a ≡ true) × (t b ≡ true)

      go : (b : Bool) → t n ≡ b → (2 ≤ sum (λ k. one (t k)) n → Pair n) → Pair (suc n)
      go true e f = let (k, l, p) = count_some n (omega (arith, one_yes e)) in (k, n, omega arith, omega arith, omega arith, p, e)
      go false e f =
          let (a, c, l, m, d, p, q) = f (omega (arith, one_no e)) in
          (a, c, omega arith, omega arith, d, p, q)

  -- where any two that pass are equal, at most one is counted
  pub count_one : (n : ℕ) → ((a b : ℕ) → a < n → b < n → t a ≡ true → t b ≡ true → a ≡ b) → count t n ≤ 1
  count_one n h = by_cases (native.Mathlib.Decide.dec_le (count t n) 1) (λ l. l)
      (λ l. let (a, b, k, m, d, p, q) = count_pair n (omega arith) in absurd (d (h a b k m p q)))

pub count_cong : (t u : ℕ → Bool) (n : ℕ) → ((k : ℕ) → k < n → t k ≡ u k) → count t n ≡ count u n
unfolding count
count_cong t u n h = sum_cong (λ k. one (t k)) (λ k. one (u k)) n (λ k l. ap one (h k l))

-- one number below n equals k
pub count_eqb : (k n : ℕ) → k < n → count (λ p. eqb k p) n ≡ 1
count_eqb k n l = omega (
  arith,
  count_one (λ p. eqb k p) n (λ a b h m e f. sym (eqb-true k a e) ∙ eqb-true k b f),
  count_has (λ p. eqb k p) n k l (eq-eqb k k refl),
)

-- The first that passes

module _ (t : ℕ → Bool) where
  pub first_start : first t 0 ≡ none
  unfolding first
  first_start = refl

  pub first_yes : (n : ℕ) → first t n ≡ none → t n ≡ true → first t (n + 1) ≡ some n
  unfolding first
  first_yes n e p = rw (add-one n) (rw (e, p))

  pub first_no : (n : ℕ) → first t n ≡ none → t n ≡ false → first t (n + 1) ≡ none
  unfolding first
  first_no n e p = rw (add-one n) (rw (e, p))

  pub first_more : (n m k : ℕ) → first t n ≡ some k → n ≤ m → first t m ≡ some k
  unfolding first
  first_more n zero k e l = let z : n ≡ 0 = omega arith in rw z at e
  first_more n (suc m) k e l = by_cases (ℕ_discrete n (suc m)) (λ z. rw z at e) (λ z. rw (first_more n m k e (omega arith)))

  pub record First (n k : ℕ) : Type 0 where
    pub low : k < n
    pub passes : t k ≡ true
    pub least : (j : ℕ) → j < k → t j ≡ false

  -- none below n passes
  pub first_none : (n : ℕ) → first t n ≡ none → (k : ℕ) → k < n → t k ≡ false
  unfolding first
  first_none zero e k l = absurd (omega arith)
  first_none (suc n) e k l = go (first t n) (t n) refl refl e (λ p. first_none n p k)
    where
      go : (o : Option ℕ) (b : Bool) → first t n ≡ o → t n ≡ b → found o b n ≡ none → (first t n ≡ none → k < n → t k ≡ false) → t k ≡ false
      go (some j) b p q x f = let z : ◌≡◌ {A = ℕ} 0 1 = cc in absurd (omega arith)
      go none true p q x f = let z : ◌≡◌ {A = ℕ} 0 1 = cc in absurd (omega arith)
      go none false p q x f = by_cases (ℕ_discrete k n) (λ d. rw d q) (λ d. f p (omega arith))

  pub first_some : (n k : ℕ) → first t n ≡ some k → First n k
  unfolding first
  first_some zero k e = let z : ◌≡◌ {A = ℕ} 0 1 = cc in absurd (omega arith)
  first_some (suc n) k e = go (first t n) (t n) refl refl e (first_some n k)
    where
      go : (o : Option ℕ) (b : Bool) → first t n ≡ o → t n ≡ b → found o b n ≡ some k → (first t n ≡ some k → First n k) → First (suc n) k
      go (some j) b p q x f =
          let s : First n k = f (cc) in
          record { low = omega (arith, s.low); passes = s.passes; least = s.least }
      go none true p q x f =
          let d : n ≡ k = cc in
          record { low = omega arith; passes = rw (← d) q; least = λ j l. first_none n p j (omega arith) }
      go none false p q x f = let z : ◌≡◌ {A = ℕ} 0 1 = cc in absurd (omega arith)

  -- the only one that passes is the first
  pub first_only : (n k : ℕ) → k < n → t k ≡ true → ((j : ℕ) → j < n → t j ≡ true → j ≡ k) → first t n ≡ some k
  first_only n k l p h = go (first t n) refl
    where
      go : (o : Option ℕ) → first t n ≡ o → first t n ≡ some k
      go none e = absurd (false≢true (sym (first_none n e k l) ∙ p))
      go (some j) e = let s = first_some n j e in e ∙ ap some (h j s.low s.passes)

  pub first_nothing : (n : ℕ) → ((k : ℕ) → k < n → t k ≡ false) → first t n ≡ none
  first_nothing n h = go (first t n) refl
    where
      go : (o : Option ℕ) → first t n ≡ o → first t n ≡ none
      go none e = e
      go (some k) e = let s = first_some n k e in absurd (false≢true (sym (h k s.low) ∙ s.passes))

pub first_same : (t u : ℕ → Bool) (n : ℕ) → ((k : ℕ) → k < n → t k ≡ u k) → first t n ≡ first u n
unfolding first
first_same t u zero h = refl
first_same t u (suc n) h = rw (first_same t u n (λ k l. h k (omega arith)), h n (omega arith))

-- Different numbers below a bound: m of them need a bound of at least m

pub distinct_below : (f : ℕ → ℕ) (m n : ℕ) → ((i : ℕ) → i < m → f i < n) → ((i j : ℕ) → i < m → j < m → f i ≡ f j → i ≡ j) → m ≤ n
unfolding count
distinct_below f m n low apart = omega (
  arith,
  sum_ones (λ i. count (λ k. eqb (f i) k) n) m (λ i l. count_eqb (f i) n (low i l)),
  sum_swap (λ i k. one (eqb (f i) k)) m n,
  sum_mono (λ k. count (λ i. eqb (f i) k) m) (λ k. 1) n (λ k l. count_one (λ i. eqb (f i) k) m (λ a b h g p q. apart a b h g (eqb-true (f a) k p ∙ sym (eqb-true (f b) k q)))),
  sum_ones (λ k. 1) n (λ k l. refl),
)
