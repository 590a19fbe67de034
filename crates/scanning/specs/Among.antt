-- A number among others, and the search for it. Assumes nothing.
use Rattle.std.specs.Prelude.{◌≡◌, ◌≢◌, Bool, true, false, List, ℕ, ◌+◌, ◌-◌, ◌≤◌, ◌<◌, length, take, drop}
use Rattle.std.proofs.Common.{◌∙◌, ap, arith, length-take, length-drop, get_or-take, get_or-drop}
use Rattle.std.proofs.Math.Logic.{by_cases}
use Rattle.std.proofs.Math.Decide.{ℕ_discrete}
use Rattle.basics.specs.Decide.{Decides, at}

abbrev pub Among : List ℕ → ℕ → Type 0
Among xs x = (k : ℕ) × (k < length xs) × (at xs k ≡ x)

-- those below i have been looked at
pub record Seen (xs : List ℕ) (x : ℕ) (seen : Bool) (i : ℕ) : Type 0 where
  pub most : i ≤ length xs
  pub told : Decides seen ((k : ℕ) × (k < i) × (at xs k ≡ x))

module _ (xs : List ℕ) (x : ℕ) where
  pub seen_start : Seen xs x false 0
  seen_start = record { most = omega arith; told = λ (k, l, e). omega arith }

  pub seen_here : {b : Bool} {i : ℕ} → i < length xs → Seen xs x b i → at xs i ≡ x → Seen xs x true (i + 1)
  seen_here {i = i} l h e = record { most = omega arith; told = (i, omega arith, e) }

  pub seen_past : {b : Bool} {i : ℕ} → i < length xs → Seen xs x b i → at xs i ≢ x → Seen xs x b (i + 1)
  seen_past {b} {i} l h e = record { most = omega arith; told = go b h.told }
    where
      go : (b : Bool) → Decides b ((k : ℕ) × (k < i) × (at xs k ≡ x)) → Decides b ((k : ℕ) × (k < i + 1) × (at xs k ≡ x))
      go true (k, m, y) = (k, omega arith, y)
      go false n = λ (k, m, y). by_cases (ℕ_discrete k i) (λ d. e (rw d at y)) (λ d. n (k, omega arith, y))

  pub seen_all : {b : Bool} {i : ℕ} → length xs ≤ i → Seen xs x b i → Decides b (Among xs x)
  seen_all {b} {i} l h = go b h.told
    where
      go : (b : Bool) → Decides b ((k : ℕ) × (k < i) × (at xs k ≡ x)) → Decides b (Among xs x)
      go true (k, m, y) = (k, omega (arith, h.most), y)
      go false n = λ (k, m, y). n (k, omega arith, y)

  -- where it is not among those of a stretch, none of these is it
  pub stretch_none : (a b : ℕ) → b ≤ length xs → (Among (take (b - a) (drop a xs)) x → ⊥) → (i : ℕ) → a ≤ i → i < b → at xs i ≢ x
  stretch_none a b l f i m n e = f (i - a, simp (length-take, length-drop) (omega arith), get_or-take (b - a) (drop a xs) (i - a) 0 (omega arith) ∙ get_or-drop a xs (i - a) 0 ∙ ap (at xs) (let d : a + (i - a) ≡ i = omega arith in d) ∙ e)
