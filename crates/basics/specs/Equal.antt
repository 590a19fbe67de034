-- Two lists of numbers: a test that says whether they are the same, and what it says. Assumes nothing.
use Rattle.std.specs.Prelude.{◌≡◌, refl, ◌≢◌, Bool, true, false, ◌&&◌, List, [], ◌∷◌, ℕ, eqb}
use Rattle.std.proofs.Common.{sym, ◌∙◌, ap₂, eq-eqb, eqb-true}
use Rattle.std.proofs.lemmas.Bool.{false≢true}
use Rattle.basics.specs.Decide.{Decides}

unfoldable pub equal : List ℕ → List ℕ → Bool
equal [] [] = true
equal [] (y ∷ ys) = false
equal (x ∷ xs) [] = false
equal (x ∷ xs) (y ∷ ys) = eqb x y && equal xs ys

pub equal_refl : (xs : List ℕ) → equal xs xs ≡ true
unfolding equal
equal_refl [] = refl
equal_refl (x ∷ xs) = rw (eq-eqb x x refl) (equal_refl xs)

pub equal_true : (xs ys : List ℕ) → equal xs ys ≡ true → xs ≡ ys
unfolding equal
equal_true [] [] e = refl
equal_true [] (y ∷ ys) e = absurd (false≢true e)
equal_true (x ∷ xs) [] e = absurd (false≢true e)
equal_true (x ∷ xs) (y ∷ ys) e = go (eqb x y) refl e (equal_true xs ys)
  where
    go : (b : Bool) → eqb x y ≡ b → (b && equal xs ys) ≡ true → (equal xs ys ≡ true → xs ≡ ys) → x ∷ xs ≡ y ∷ ys
    go true h e f = ap₂ ◌∷◌ (eqb-true x y h) (f e)
    go false h e f = absurd (false≢true e)

pub equal_false : (xs ys : List ℕ) → equal xs ys ≡ false → xs ≢ ys
equal_false xs ys e q = false≢true (sym e ∙ rw q (equal_refl ys))

pub equal_not : (xs ys : List ℕ) → xs ≢ ys → equal xs ys ≡ false
equal_not xs ys d = go (equal xs ys) refl
  where
    go : (b : Bool) → equal xs ys ≡ b → equal xs ys ≡ false
    go true e = absurd (d (equal_true xs ys e))
    go false e = e

-- what decides whether two lists are the same is the test
pub equal_decided : (b : Bool) (xs ys : List ℕ) → Decides b (xs ≡ ys) → b ≡ equal xs ys
equal_decided true xs ys d = sym (rw d (equal_refl ys))
equal_decided false xs ys d = sym (equal_not xs ys d)
