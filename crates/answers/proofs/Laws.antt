-- Laws of tests in a row: one that holds refuses, one that does not is passed over; and no refusal has the number 0. Assumes nothing.
use Rattle.std.specs.Prelude.{◌≡◌, refl, Bool, true, false, ◌&&◌, [], ◌∷◌, ℕ, ◌≤◌, leb}
use Rattle.std.proofs.Common.{ap, arith, leb-true, le-leb}
use Rattle.std.proofs.Math.Option.{Option, none, some}
use Rattle.basics.specs.Decide.{and_yes, both}
use Rattle.measures.specs.declared.Size.{Size}
use Rattle.measures.specs.Measures.{Within}
use Rattle.answers.specs.declared.Refusal.{Refusal}
use Rattle.answers.specs.declared.Refusal.TheVariants.{BadSize, BadLength, BadRow, ZeroTag, OriginTag, UnknownCommand, CutCommand, LongStream, Unsound, UnknownTag, TagAlive, SnapshotsFull, PlacesFull, TooManyRows}
use Rattle.answers.specs.Answers.{number, handed, done, refused}
use Rattle.answers.specs.Tests.{Tests, refusal, unless, verdict_number, in_measure}

pub refusal_here : {b : Bool} (r : Refusal) (ts : Tests) → b ≡ true → refusal ((b, r) ∷ ts) ≡ some r
unfolding refusal
refusal_here r ts e = rw e

pub refusal_next : {b : Bool} (r : Refusal) (ts : Tests) → b ≡ false → refusal ((b, r) ∷ ts) ≡ refusal ts
unfolding refusal
refusal_next r ts e = rw e

-- a call that no test refuses has passed each
pub refusal_passed : (b : Bool) (r : Refusal) (ts : Tests) → refusal ((b, r) ∷ ts) ≡ none → (b ≡ false) × (refusal ts ≡ none)
unfolding refusal
refusal_passed true r ts e = let z : ◌≡◌ {A = ℕ} 0 1 = cc in absurd (omega arith)
refusal_passed false r ts e = (refl, e)

pub refusal_none : refusal [] ≡ none
unfolding refusal
refusal_none = refl

-- what is made of a choice is chosen
pub unless_made : {A B : Type 0} (f : A → B) (v : Option Refusal) (old new : A) → f (unless v (λ x. old) new) ≡ unless v (λ x. f old) (f new)
unless_made f none old new = refl
unless_made f (some r) old new = refl

-- and need be the same only where it is accepted
pub unless_same : {A : Type 0} (v : Option Refusal) (f : Refusal → A) {x y : A} → (v ≡ none → x ≡ y) → unless v f x ≡ unless v f y
unless_same none f h = h refl
unless_same (some r) f h = refl

-- no refusal has the number 0
pub number_some : (r : Refusal) → number r ≡ 0 → ⊥
number_some BadSize e = omega (arith, e)
number_some BadLength e = omega (arith, e)
number_some BadRow e = omega (arith, e)
number_some ZeroTag e = omega (arith, e)
number_some OriginTag e = omega (arith, e)
number_some UnknownCommand e = omega (arith, e)
number_some CutCommand e = omega (arith, e)
number_some LongStream e = omega (arith, e)
number_some Unsound e = omega (arith, e)
number_some UnknownTag e = omega (arith, e)
number_some TagAlive e = omega (arith, e)
number_some SnapshotsFull e = omega (arith, e)
number_some PlacesFull e = omega (arith, e)
number_some TooManyRows e = omega (arith, e)

-- later tests may be compared as if the earlier ones did not hold
pub refusal_same : (b : Bool) (r : Refusal) (ts us : Tests) → (b ≡ false → refusal ts ≡ refusal us) → refusal ((b, r) ∷ ts) ≡ refusal ((b, r) ∷ us)
unfolding refusal
refusal_same true r ts us h = refl
refusal_same false r ts us h = h refl

-- a verdict with the number 0 accepts
pub verdict_none : (v : Option Refusal) → verdict_number v ≡ 0 → v ≡ none
verdict_none none e = refl
verdict_none (some r) e = absurd (number_some r e)

-- a verdict's number alone is the answer of a call that gives nothing beside
pub plain : (v : Option Refusal) {n : ℕ} → n ≡ verdict_number v → handed n [] [] ≡ unless v refused done
plain none e = ap (λ (n : ℕ). handed n [] []) e
plain (some r) e = ap (λ (n : ℕ). handed n [] []) e

-- the test of the measures answers whether they are within their limits
pair_yes : (a b c d : ℕ) → (a ≤ b) × (c ≤ d) → (leb a b && leb c d) ≡ true
pair_yes a b c d h = and_yes (le-leb a b h.0) (le-leb c d h.1)

pair_of : (a b c d : ℕ) → (leb a b && leb c d) ≡ true → (a ≤ b) × (c ≤ d)
pair_of a b c d e = let (x, y) = both (leb a b) (leb c d) e in (leb-true a b x, leb-true c d y)

pub in_measure_lem : (z : Size) → Within z → in_measure z ≡ true
unfolding in_measure
in_measure_lem z w = and_yes (and_yes (pair_yes 1 z.rows z.rows 1024 w.rows) (pair_yes 1 z.width z.width 1024 w.width)) (pair_yes z.rows z.places z.places 4096 w.places)

pub measure_in : (z : Size) → in_measure z ≡ true → Within z
unfolding in_measure
measure_in z e =
    let (f, p) = both ((leb 1 z.rows && leb z.rows 1024) && (leb 1 z.width && leb z.width 1024)) (leb z.rows z.places && leb z.places 4096) e in
    let (r, w) = both (leb 1 z.rows && leb z.rows 1024) (leb 1 z.width && leb z.width 1024) f in
    record { rows = pair_of 1 z.rows z.rows 1024 r; width = pair_of 1 z.width z.width 1024 w; places = pair_of z.rows z.places z.places 4096 p }
