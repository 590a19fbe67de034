-- A position and its hook tell each other; and a table is in order if one test passes at each of its entries. Assumes nothing.
use Rattle.std.specs.Prelude.{◌≡◌, Bool, true, ◌&&◌, List, [], ◌∷◌, ℕ, zero, suc, ◌+◌, ◌<◌, eqb, length}
use Rattle.std.proofs.Common.{sym, ◌∙◌, ap, arith, eqb-true}
use Rattle.basics.specs.Decide.{at, both}
use Rattle.hooks.specs.Order.{hook_at, position_of, Ordered}

pub hook_below : (n : ℕ) → n < 1024 → hook_at n < 1024
unfolding hook_at
hook_below n l = omega arith

pub position_below : (h : ℕ) → h < 1024 → position_of h < 1024
unfolding position_of
position_below h l = omega arith

pub hook_of_position : (h : ℕ) → h < 1024 → hook_at (position_of h) ≡ h
unfolding hook_at position_of
hook_of_position h l = omega arith

pub position_of_hook : (n : ℕ) → n < 1024 → position_of (hook_at n) ≡ n
unfolding hook_at position_of
position_of_hook n l = omega arith

-- a test passes at every entry and its position, the first of which is i
abbrev pub every : (ℕ → ℕ → Bool) → ℕ → List ℕ → Bool
every f i [] = true
every f i (x ∷ xs) = f i x && every f (suc i) xs

every_at : (f : ℕ → ℕ → Bool) (i : ℕ) (xs : List ℕ) → every f i xs ≡ true → (k : ℕ) → k < length xs → f (i + k) (at xs k) ≡ true
every_at f i [] e k l = absurd (omega arith)
every_at f i (x ∷ xs) e zero l = ap (λ (j : ℕ). f j x) (omega arith) ∙ (both (f i x) (every f (suc i) xs) e).0
every_at f i (x ∷ xs) e (suc k) l = ap (λ (j : ℕ). f j (at xs k)) (omega arith) ∙ every_at f (suc i) xs (both (f i x) (every f (suc i) xs) e).1 k (omega arith)

-- the test of one entry: it is the hook of its position, and that position is the hook's
abbrev pub right : ℕ → ℕ → Bool
right n h = eqb h (hook_at n) && eqb (position_of h) n

-- both facts about a table come from this one test of the whole
module _ (table : List ℕ) (tested : every right 0 table ≡ true) (size : length table ≡ 1024) where
  entry : (n : ℕ) → n < 1024 → (at table n ≡ hook_at n) × (position_of (at table n) ≡ n)
  entry n l =
      let t = ap (λ (j : ℕ). right j (at table n)) (let e : n ≡ 0 + n = omega arith in e) ∙ every_at right 0 table tested n (omega arith) in
      let (a, b) = both (eqb (at table n) (hook_at n)) (eqb (position_of (at table n)) n) t in
      (eqb-true _ _ a, eqb-true _ _ b)

  pub ordered : Ordered table
  ordered = record {
    size = size;
    rule = λ n l. (entry n l).0;
    once = λ h l. record {
      inside = omega (arith, size, position_below h l);
      there = (entry (position_of h) (position_below h l)).0 ∙ hook_of_position h l;
      alone = λ m k e. sym (entry m (omega arith)).1 ∙ ap position_of e;
    };
  }
