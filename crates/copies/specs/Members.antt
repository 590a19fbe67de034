-- What is in a list, and tests over all that is in it. Assumes nothing.
use Rattle.std.specs.Prelude.{◌≡◌, ◌↔◌, ◌⊎◌, Bool, ℕ, eqb}
use Rattle.std.proofs.Math.Path.{refl, ap, ap₂}
use Rattle.std.proofs.Common.{sym, ◌∙◌, eqb-true, eq-eqb}
use Rattle.std.proofs.Math.Logic.{inl, inr}
use Rattle.std.proofs.Math.Bool.{true, false, cond, ◌||◌, or-true}
use Rattle.std.proofs.lemmas.Bool.{false≢true}
use mathlib.Core.List.{List, [], ◌∷◌}
use Rattle.copies.specs.Copies.{any, only}

abbrev pub In : {A : Type 0} → A → List A → Type 0
In x [] = ⊥
In x (y ∷ ys) = (x ≡ y) ⊎ In x ys

-- two tests that hold together are one
pub test_iff : {a b : Bool} → (a ≡ true) ↔ (b ≡ true) → a ≡ b
test_iff {a = true} {b = true} h = refl
test_iff {a = true} {b = false} h = sym (h.0 refl)
test_iff {a = false} {b = true} h = h.1 refl
test_iff {a = false} {b = false} h = refl

pub eqb_iff : {a b c d : ℕ} → a ≡ b ↔ c ≡ d → eqb a b ≡ eqb c d
eqb_iff {a} {b} {c} {d} h = test_iff (λ e. eq-eqb c d (h.0 (eqb-true a b e)), λ e. eq-eqb a b (h.1 (eqb-true c d e)))

module _ {A : Type 0} where
  -- an element that passes
  abbrev pub Passes : (A → Bool) → List A → Type 0
  Passes p xs = (x : A) × In x xs × (p x ≡ true)

  pub any_yes : (p : A → Bool) (xs : List A) (x : A) → In x xs → p x ≡ true → any p xs ≡ true
  unfolding any
  any_yes p [] x i e = absurd i
  any_yes p (y ∷ ys) x (inl k) e = rw (← k, e)
  any_yes p (y ∷ ys) x (inr i) e = rw (any_yes p ys x i e) (or-true (p y))

  pub any_some : (p : A → Bool) (xs : List A) → any p xs ≡ true → Passes p xs
  unfolding any
  any_some p [] e = absurd (false≢true e)
  any_some p (y ∷ ys) e = go (p y) refl e (any_some p ys)
    where
      go : (b : Bool) → p y ≡ b → (b || any p ys) ≡ true → (any p ys ≡ true → Passes p ys) → Passes p (y ∷ ys)
      go true k h f = (y, inl refl, k)
      go false k h f = let (x, i, q) = f h in (x, inr i, q)

  -- one list, two tests that are the same on it
  pub any_same : (p q : A → Bool) (xs : List A) → ((x : A) → In x xs → p x ≡ q x) → any p xs ≡ any q xs
  unfolding any
  any_same p q [] h = refl
  any_same p q (x ∷ xs) h = ap₂ ◌||◌ (h x (inl refl)) (any_same p q xs (λ y i. h y (inr i)))

  -- one test, two lists of the same elements: neither order nor repetition counts
  pub any_members : (p : A → Bool) (xs ys : List A) → ((x : A) → In x xs ↔ In x ys) → any p xs ≡ any p ys
  any_members p xs ys h = test_iff (half xs ys (λ x. (h x).0), half ys xs (λ x. (h x).1))
    where
      half : (xs ys : List A) → ((x : A) → In x xs → In x ys) → any p xs ≡ true → any p ys ≡ true
      half xs ys h e = let (x, i, k) = any_some p xs e in any_yes p ys x (h x i) k

  -- those that pass: in the list, and passing; and by what the test says on the list alone

  only_of : (p : A → Bool) (xs : List A) (x : A) → In x (only p xs) → In x xs × (p x ≡ true)
  unfolding only
  only_of p [] x i = absurd i
  only_of p (y ∷ ys) x i = go (p y) refl i (only_of p ys x)
    where
      go : (b : Bool) → p y ≡ b → In x (cond b (y ∷ only p ys) (only p ys)) → (In x (only p ys) → In x ys × (p x ≡ true)) → In x (y ∷ ys) × (p x ≡ true)
      go true k (inl e) f = (inl e, ap p e ∙ k)
      go true k (inr j) f = let (h, e) = f j in (inr h, e)
      go false k j f = let (h, e) = f j in (inr h, e)

  in_only : (p : A → Bool) (xs : List A) (x : A) → In x xs → p x ≡ true → In x (only p xs)
  unfolding only
  in_only p [] x i e = absurd i
  in_only p (y ∷ ys) x (inl k) e = rw (ap p (sym k) ∙ e) (inl k)
  in_only p (y ∷ ys) x (inr i) e = past (p y) (in_only p ys x i e)
    where
      past : (b : Bool) → In x (only p ys) → In x (cond b (y ∷ only p ys) (only p ys))
      past true j = inr j
      past false j = j

  pub only_in : (p : A → Bool) (xs : List A) (x : A) → In x (only p xs) ↔ (In x xs × (p x ≡ true))
  only_in p xs x = (only_of p xs x, λ (i, e). in_only p xs x i e)

  pub only_same : (p q : A → Bool) (xs : List A) → ((x : A) → In x xs → p x ≡ q x) → only p xs ≡ only q xs
  unfolding only
  only_same p q [] h = refl
  only_same p q (x ∷ xs) h = ap₂ (λ (b : Bool) (ys : List A). cond b (x ∷ ys) ys) (h x (inl refl)) (only_same p q xs (λ y i. h y (inr i)))

  pub only_all : (xs : List A) → only (λ x. true) xs ≡ xs
  unfolding only
  only_all [] = refl
  only_all (x ∷ xs) = ap (◌∷◌ x) (only_all xs)
