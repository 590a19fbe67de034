-- What the test for a lonely entry says, and at which row the place of an entry is read. Assumes nothing.
use Rattle.std.specs.Prelude.{◌≡◌, refl, ◌≢◌, ◌⊎◌, Bool, true, false, ◌&&◌, ℕ, ◌+◌, ◌<◌, eqb, length}
use Rattle.std.proofs.Common.{sym, ◌∙◌, ap, inl, inr, arith, eq-eqb, ne_eqb, eqb-true}
use Rattle.std.proofs.Math.Bool.{not}
use Rattle.std.proofs.lemmas.Bool.{false≢true}
use Rattle.basics.specs.Decide.{at, and_yes, both, not_yes, not_of, failed, holds}
use Rattle.trees.specs.declared.Tree.{Tree}
use Rattle.trees.specs.Trees.{Table, taken}
use Rattle.trees.specs.Reading.{Reads, origin, own, above, place}
use Rattle.sharing.specs.Sharing.{SharedAt, shared_at}
use Rattle.sharing.specs.Laws.{shared_decides}
use Rattle.removal.specs.Removal.{lonely}

-- a test holds or fails, with its equation
pub tested : {P : Type 0} (b : Bool) → (b ≡ true → P) → (b ≡ false → P) → P
tested true x y = x refl
tested false x y = y refl

module _ (t : Tree) (e : Table) (v i : ℕ) where
  -- the version at node v reads a lonely entry, and shares it with no other
  pub lonely_of : lonely t e v i ≡ true → (place t e v (at e.row i) ≡ e.rows + i) × (SharedAt t e v (at e.row i) → ⊥)
  unfolding lonely
  lonely_of h =
      let (a, f) = both (taken e i) (eqb (place t e v (at e.row i)) (e.rows + i) && not (shared_at t e v (at e.row i))) h in
      let (b, c) = both (eqb (place t e v (at e.row i)) (e.rows + i)) (not (shared_at t e v (at e.row i))) f in
      (eqb-true _ _ b, failed (shared_at t e v (at e.row i)) (shared_decides t e v (at e.row i)) c)

  pub lonely_taken : lonely t e v i ≡ true → at e.node i ≢ 0
  unfolding lonely taken
  lonely_taken h = not_of _ 0 (both (not (eqb (at e.node i) 0)) (eqb (place t e v (at e.row i)) (e.rows + i) && not (shared_at t e v (at e.row i))) h).0

  pub lonely_yes : at e.node i ≢ 0 → place t e v (at e.row i) ≡ e.rows + i → shared_at t e v (at e.row i) ≡ false → lonely t e v i ≡ true
  unfolding lonely taken
  lonely_yes x p h = and_yes (not_yes (ne_eqb _ 0 x)) (and_yes (eq-eqb _ _ p) (not_yes h))

  -- a taken entry that is read by the version at node v and is not lonely is shared
  pub shared_of : lonely t e v i ≡ false → at e.node i ≢ 0 → place t e v (at e.row i) ≡ e.rows + i → SharedAt t e v (at e.row i)
  shared_of h x p = tested (shared_at t e v (at e.row i))
      (λ y. holds (shared_at t e v (at e.row i)) (shared_decides t e v (at e.row i)) y)
      (λ y. absurd (false≢true (sym h ∙ lonely_yes x p y)))

-- place p is the origin's, or that of a taken entry for row r
abbrev pub Serves : Table → ℕ → ℕ → Type 0
Serves e r p = (p < e.rows) ⊎ ((i : ℕ) × (i < length e.node) × (at e.node i ≢ 0) × (at e.row i ≡ r) × (p ≡ e.rows + i))

module _ (t : Tree) (e : Table) where
  -- a row is read from a place that serves it
  pub reads_serves : {r p n : ℕ} → r < e.rows → Reads t e r p n → Serves e r p
  reads_serves l (origin x y) = inl (omega arith)
  reads_serves l (own {i = i} x o y) = inr (i, o.0, (λ z. x (sym o.1 ∙ z)), o.2, y)
  reads_serves l (above x o d) = reads_serves l d

  -- who reads the place of an entry reads it at the entry's row
  pub reads_row : {r n : ℕ} (i : ℕ) → r < e.rows → Reads t e r (e.rows + i) n → at e.row i ≡ r
  reads_row {r} i l d = go (reads_serves l d)
    where
      go : Serves e r (e.rows + i) → at e.row i ≡ r
      go (inl h) = absurd (omega arith)
      go (inr (j, m, x, y, h)) = ap (at e.row) (let k : i ≡ j = omega arith in k) ∙ y
