-- A list of the nodes in use, and how it grows. Assumes nothing.
use Rattle.std.specs.Prelude.{◌≡◌, ◌≢◌, List, ℕ, ◌+◌, ◌*◌, ◌≤◌, ◌<◌, length, set, take}
use Rattle.std.proofs.Common.{sym, ◌∙◌, ap, arith, length-set, get_or-set_same, get_or-set_other, get_or-take, length-take-le}
use Rattle.std.proofs.Math.Logic.{by_cases}
use Rattle.std.proofs.Math.Path.{PathP, to_path_p}
use Rattle.std.specs.Coded.{Π_prop, →_prop}
use Rattle.std.proofs.Props.{props}
use Rattle.std.proofs.Math.Decide.{ℕ_discrete, dec_lt}
use Rattle.basics.specs.Decide.{at}
use Rattle.faults.specs.Faults.{Below}
use Rattle.scanning.specs.Zero.{ZeroFrom}

-- the nodes other than node 0 whose state is not 0, each once
pub record Listed (state xs : List ℕ) : Type 0 where
  pub few : length xs ≤ 128
  pub each : (j : ℕ) → j < length xs → (at xs j ≢ 0) × (at xs j < 128) × (at state (at xs j) ≢ 0)
  pub all : (n : ℕ) → n ≢ 0 → n < 128 → at state n ≢ 0 → (j : ℕ) × (j < length xs) × (at xs j ≡ n)
  pub apart : (i j : ℕ) → i < length xs → j < length xs → at xs i ≡ at xs j → i ≡ j

-- the same of the nodes below n, in the first k numbers of a list of 128
pub record Listing (state xs : List ℕ) (k n : ℕ) : Type 0 where
  pub size : length xs ≡ 128
  pub most : k ≤ n
  pub each : (j : ℕ) → j < k → (at xs j ≢ 0) × (at xs j < n) × (at state (at xs j) ≢ 0)
  pub all : (m : ℕ) → m ≢ 0 → m < n → at state m ≢ 0 → (j : ℕ) × (j < k) × (at xs j ≡ m)
  pub apart : (i j : ℕ) → i < k → j < k → at xs i ≡ at xs j → i ≡ j

-- from node end on, a multiple of 16, none is in use
pub record Ends (state : List ℕ) (end : ℕ) : Type 0 where
  pub most : end ≤ 128
  pub step : (j : ℕ) × (end ≡ j * 16)
  pub idle : ZeroFrom state end 128

module _ (state xs : List ℕ) where
  pub listing_first : length xs ≡ 128 → Listing state xs 0 0
  listing_first e = record {
    size = e;
    most = omega arith;
    each = λ j l. absurd (omega arith);
    all = λ m z l u. absurd (omega arith);
    apart = λ i j l h e. absurd (omega arith);
  }

  -- past nodes that are not listed
  pub listing_past : (k n to : ℕ) → n ≤ to → ((m : ℕ) → n ≤ m → m < to → m ≢ 0 → at state m ≢ 0 → ⊥) → Listing state xs k n → Listing state xs k to
  listing_past k n to l f h = record {
    size = h.size;
    most = omega (arith, h.most);
    each = λ j b. let (z, s, u) = h.each j b in (z, omega arith, u);
    all = λ m z b u. by_cases (dec_lt m n) (λ s. h.all m z s u) (λ s. absurd (f m (omega arith) b z u));
    apart = h.apart;
  }

  -- node n joins
  pub listing_next : (k n : ℕ) → n < 128 → n ≢ 0 → at state n ≢ 0 → Listing state xs k n → Listing state (set xs k n) (k + 1) (n + 1)
  listing_next k n l z u h = record {
    size = length-set xs k n ∙ h.size;
    most = omega (arith, h.most);
    each = λ j b. by_cases (ℕ_discrete j k)
        (λ e. rw (e, new) (z, omega arith, u))
        (λ e. let (y, s, w) = h.each j (omega arith) in rw (old j e) (y, omega arith, w));
    all = λ m y b w. by_cases (ℕ_discrete m n)
        (λ e. (k, omega arith, new ∙ sym e))
        (λ e. let (j, s, p) = h.all m y (omega arith) w in (j, omega arith, old j (λ x. omega arith) ∙ p));
    apart = λ i j a b e. by_cases (ℕ_discrete i k)
        (λ p. by_cases (ℕ_discrete j k) (λ q. p ∙ sym q) (λ q. absurd (low j q b (sym (old j q) ∙ sym e ∙ ap (at (set xs k n)) p ∙ new))))
        (λ p. by_cases (ℕ_discrete j k) (λ q. absurd (low i p a (sym (old i p) ∙ e ∙ ap (at (set xs k n)) q ∙ new)))
        (λ q. h.apart i j (omega arith) (omega arith) (sym (old i p) ∙ e ∙ old j q)));
  }
    where
      new : at (set xs k n) k ≡ n
      new = get_or-set_same xs k n 0 (omega (arith, h.most, h.size))

      old : (j : ℕ) → j ≢ k → at (set xs k n) j ≡ at xs j
      old j e = get_or-set_other xs k j n 0 e

      low : (j : ℕ) → j ≢ k → j < k + 1 → at xs j ≡ n → ⊥
      low j e b p = omega (arith, (h.each j (omega arith)).1, p)

-- with all nodes passed, the first k numbers are the list
pub listed_of : (state xs : List ℕ) (k : ℕ) → Listing state xs k 128 → Listed state (take k xs)
listed_of state xs k h = record {
  few = omega (arith, long, h.most);
  each = λ j l. rw (same j (omega (arith, long))) (h.each j (omega (arith, long)));
  all = λ n z l u. let (j, b, e) = h.all n z l u in (j, omega (arith, long), same j b ∙ e);
  apart = λ i j a b e. h.apart i j (omega (arith, long)) (omega (arith, long)) (sym (same i (omega (arith, long))) ∙ e ∙ same j (omega (arith, long)));
}
  where
    long : length (take k xs) ≡ k
    long = length-take-le k xs (omega (arith, h.most, h.size))

    same : (j : ℕ) → j < k → at (take k xs) j ≡ at xs j
    same j l = get_or-take k xs j 0 l

-- past a stretch whose nodes are all not in use
pub listing_idle : (state xs : List ℕ) (k n to : ℕ) → n ≤ to → ZeroFrom state n to → Listing state xs k n → Listing state xs k to
listing_idle state xs k n to l f = listing_past state xs k n to l (λ m a b z u. u (f m a b))

-- what holds at every position of the list holds of every node in use
pub listed_all : {state xs : List ℕ} → Listed state xs → (P : ℕ → Type 0) → Below (λ j. P (at xs j)) (length xs) → (n : ℕ) → n ≢ 0 → n < 128 → at state n ≢ 0 → P n
listed_all h P f n z l u = let (j, b, e) = h.all n z l u in rw (← e) (f j b)

-- The list as a value of its own: what it says has one proof, since no node stands twice

-- the position of a node, where all numbers are apart
pub position_prop : (xs : List ℕ) → ((i j : ℕ) → i < length xs → j < length xs → at xs i ≡ at xs j → i ≡ j) → (n : ℕ) → IsProp ((j : ℕ) × (j < length xs) × (at xs j ≡ n))
position_prop xs h n u v = λ i. (p i, q i, r i)
  where
    p : u.0 ≡ v.0
    p = h u.0 v.0 u.1 v.1 (u.2 ∙ sym v.2)

    low : IsProp (v.0 < length xs)
    low = hlevel props

    here : IsProp (at xs v.0 ≡ n)
    here = hlevel props

    q : PathP (λ i. p i < length xs) u.1 v.1
    q = to_path_p (λ i. p i < length xs) (low _ _)

    r : PathP (λ i. at xs (p i) ≡ n) u.2 v.2
    r = to_path_p (λ i. at xs (p i) ≡ n) (here _ _)

pub all_prop : (state xs : List ℕ) → ((i j : ℕ) → i < length xs → j < length xs → at xs i ≡ at xs j → i ≡ j)
    → IsProp ((n : ℕ) → n ≢ 0 → n < 128 → at state n ≢ 0 → (j : ℕ) × (j < length xs) × (at xs j ≡ n))
all_prop state xs h = Π_prop (λ n. →_prop (→_prop (→_prop (position_prop xs h n))))
