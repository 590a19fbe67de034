-- The comparison of slices and the test of two lists are the same. Assumes nothing.
use Rattle.std.specs.Prelude.{◌≡◌, refl, ◌&&◌, List, [], ◌∷◌, ℕ, eqb}
use Rattle.std.proofs.Common.{ap}
use lib.Pointwise.{pointwise}
use Rattle.basics.specs.Equal.{equal}

pub pointwise_equal : (xs ys : List ℕ) → pointwise eqb xs ys ≡ equal xs ys
unfolding equal
pointwise_equal [] [] = refl
pointwise_equal [] (y ∷ ys) = refl
pointwise_equal (x ∷ xs) [] = refl
pointwise_equal (x ∷ xs) (y ∷ ys) = ap (λ b. eqb x y && b) (pointwise_equal xs ys)
