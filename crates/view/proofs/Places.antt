-- Places: the row to which each belongs, a test for its being in use, and how many pass the test. Assumes nothing.
use Rattle.std.specs.Prelude.{◌≡◌, refl, Bool, true, false, not, cond, ◌||◌, ℕ, zero, suc, ◌+◌, ◌-◌, ◌≤◌, ◌<◌, eqb, ltb, length}
use Rattle.std.proofs.Common.{inl, inr, add-zero, add-suc, arith, lt-ltb, le-ltb, ltb-true, ltb-false, eqb-true}
use Rattle.std.proofs.lemmas.Bool.{eqb-false}
use Rattle.basics.specs.Decide.{Decides, at}
use Rattle.basics.specs.Count.{sum, one, count}
use Rattle.basics.proofs.CountLaws.{sum_ones, count_cong, one_yes}
use Rattle.trees.specs.declared.Tree.{Tree}
use Rattle.trees.specs.Trees.{Table, taken, used, PlaceUsed}
use Rattle.trees.specs.Reading.{Reads, origin, own, above}

-- a place below L is that row's own; any other is its entry's
abbrev pub row_of_place : Table → ℕ → ℕ
row_of_place e p = cond (ltb p e.rows) p (at e.row (p - e.rows))

pub reads_row : (t : Tree) (e : Table) {r p n : ℕ} → r < e.rows → Reads t e r p n → row_of_place e p ≡ r
reads_row t e {p = p} l (origin x y) = rw (lt-ltb p e.rows (omega arith)) y
reads_row t e {p = p} l (own {i = i} x o y) =
    let k : p - e.rows ≡ i = omega arith in
    rw (le-ltb p e.rows (omega arith), k) o.2
reads_row t e l (above x o d) = reads_row t e l d

-- Places in use, by a test

unfoldable pub place_in_use : Table → ℕ → Bool
place_in_use e v = ltb v e.rows || taken e (v - e.rows)

pub in_use_decides : (e : Table) (v : ℕ) → v < e.rows + length e.node → Decides (place_in_use e v) (PlaceUsed e v)
unfolding place_in_use taken
in_use_decides e v l = low (ltb v e.rows) refl
  where
    free : at e.node (v - e.rows) ≡ 0 → e.rows ≤ v → PlaceUsed e v → ⊥
    free x m (inl h) = omega arith
    free x m (inr (i, k, h, q)) = let j : v - e.rows ≡ i = omega arith in h (rw j at x)

    high : (b : Bool) → eqb (at e.node (v - e.rows)) 0 ≡ b → e.rows ≤ v → Decides (not b) (PlaceUsed e v)
    high true x m = free (eqb-true _ 0 x) m
    high false x m = inr (v - e.rows, omega arith, eqb-false _ 0 x, omega arith)

    low : (b : Bool) → ltb v e.rows ≡ b → Decides (b || not (eqb (at e.node (v - e.rows)) 0)) (PlaceUsed e v)
    low true x = inl (ltb-true v e.rows x)
    low false x = high (eqb (at e.node (v - e.rows)) 0) refl (ltb-false v e.rows x)

count_all : (b : ℕ → Bool) (n : ℕ) → ((k : ℕ) → k < n → b k ≡ true) → count b n ≡ n
unfolding count
count_all b n h = sum_ones (λ k. one (b k)) n (λ k l. one_yes (h k l))

-- below a sum: those below a, then those from a on
count_split : (b : ℕ → Bool) (a n : ℕ) → count b (a + n) ≡ count b a + count (λ k. b (a + k)) n
unfolding count sum
count_split b a zero = rw (add-zero a) (omega arith)
count_split b a (suc n) = rw (add-suc a n) (omega (arith, count_split b a n))

pub count_in_use : (e : Table) → count (place_in_use e) (e.rows + length e.node) ≡ used e
unfolding used place_in_use
count_in_use e = omega (
  arith,
  count_split (place_in_use e) e.rows (length e.node),
  below,
  count_cong (λ k. place_in_use e (e.rows + k)) (taken e) (length e.node) (λ k l. from k),
)
  where
    below : count (place_in_use e) e.rows ≡ e.rows
    below = count_all (place_in_use e) e.rows (λ k l. rw (lt-ltb k e.rows l))

    from : (k : ℕ) → place_in_use e (e.rows + k) ≡ taken e k
    from k =
        let m : (e.rows + k) - e.rows ≡ k = omega arith in
        rw (le-ltb (e.rows + k) e.rows (omega arith), m)
