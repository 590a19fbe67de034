-- What a border can be refused with at one of its rows: 3 or 24. With any other refusal no row was done. Of the model; Stores.antt says it of stores. Assumes nothing.
use Rattle.std.specs.Prelude.{◌≡◌, refl, ◌≢◌, ◌⊎◌, Bool, true, false, ◌&&◌, ℕ, ◌*◌, eqb, length, drop}
use Rattle.std.proofs.Common.{◌∙◌, ap, inl, inr, suc-mul, arith, length-drop, length-take-le, eq-eqb, eqb-true}
use Rattle.std.proofs.Math.Bool.{not}
use mathlib.Core.List.{List, [], ◌∷◌}
use Rattle.std.proofs.Math.Option.{Option, none, some}
use Rattle.std.proofs.Math.Dec.{leb}
use Rattle.std.proofs.lemmas.Bool.{not-false}
use Rattle.basics.specs.Equal.{equal}
use Rattle.measures.specs.declared.Size.{Size}
use Rattle.measures.specs.Measures.{rows_with}
use Rattle.answers.specs.declared.Refusal.{Refusal}
use Rattle.answers.specs.declared.Refusal.TheVariants.{BadLength, BadRow, UnknownTag, PlacesFull, TooManyRows}
use Rattle.answers.specs.Answers.{number}
use Rattle.answers.specs.Tests.{refusal, unless}
use Rattle.answers.proofs.Laws.{refusal_next, refusal_same, refusal_passed}
use Rattle.answers.specs.InOrder.{stopped, one_more, in_order, ended_with}
use Rattle.copies.specs.Copies.{alive, shared, places_used}
use Rattle.model.specs.Call.{write, border}
use Rattle.model.specs.Model.{Model, tests, effect, verdict, border_tests, bordered, reply}

-- none, 3 or 24
abbrev AtRow : Option Refusal → Type 0
AtRow none = Unit {0}
AtRow (some r) = (number r ≡ 3) ⊎ (number r ≡ 24)

two_left : (a b : Bool) → AtRow (refusal ((a, BadRow) ∷ (b, PlacesFull) ∷ []))
unfolding refusal
two_left true b = inl refl
two_left false true = inr refl
two_left false false = tt

-- each row has its bytes
abbrev Wide : ℕ → List (ℕ × List ℕ) → Type 0
Wide width [] = Unit {0}
Wide width (x ∷ xs) = (length x.1 ≡ width) × Wide width xs

rows_wide : (width : ℕ) (rs bs : List ℕ) → length bs ≡ length rs * width → Wide width (rows_with width rs bs)
unfolding rows_with
rows_wide width [] bs e = tt
rows_wide width (r ∷ rs) bs e = (
  length-take-le width bs (omega (arith, e, suc-mul (length rs) width)),
  rows_wide width rs (drop width bs) (omega (arith, e, suc-mul (length rs) width, length-drop width bs)),
)

module _ (z : Size) (t : ℕ) where
  -- a single write of a living version, with as many bytes as a row has
  write_at_row : (m : Model) (r : ℕ) (bs : List ℕ) → length bs ≡ z.width → alive m.snapshots t ≡ true → AtRow (verdict z m (write t r bs))
  unfolding verdict tests
  write_at_row m r bs l a =
      let full = shared m.snapshots m.rows.mark t r && leb z.places (places_used z.rows m.snapshots m.rows.mark) && not (equal bs (m.rows.content (t, r))) in
      let e : verdict z m (write t r bs) ≡ refusal ((leb z.rows r, BadRow) ∷ (full, PlacesFull) ∷ []) =
      refusal_next BadLength _ (ap not (eq-eqb (length bs) z.width l)) ∙ refusal_same (leb z.rows r) BadRow _ _ (λ k. refusal_next UnknownTag _ (ap not a)) in
      rw e (two_left (leb z.rows r) full)

  rows_at_row : (m : Model) (xs : List (ℕ × List ℕ)) → alive m.snapshots t ≡ true → Wide z.width xs
      → AtRow (in_order (λ n x. verdict z n (write t x.0 x.1)) (λ n x. effect n (write t x.0 x.1)) m xs).refusal
  unfolding in_order effect
  rows_at_row m [] a w = tt
  rows_at_row m (x ∷ xs) a w = go (verdict z m (write t x.0 x.1)) (write_at_row m x.0 x.1 w.0 a) (rows_at_row (effect m (write t x.0 x.1)) xs a w.1)
    where
      go : (v : Option Refusal) → AtRow v → AtRow (in_order (λ n x. verdict z n (write t x.0 x.1)) (λ n x. effect n (write t x.0 x.1)) (effect m (write t x.0 x.1)) xs).refusal
          → AtRow (unless v (stopped m) (one_more (in_order (λ n x. verdict z n (write t x.0 x.1)) (λ n x. effect n (write t x.0 x.1)) (effect m (write t x.0 x.1)) xs))).refusal
      go none h k = k
      go (some r) h k = h

-- what a border that no test of its own refuses has passed
passed : (z : Size) (m : Model) (t : ℕ) (rs bs : List ℕ) → refusal (border_tests z m.snapshots t rs bs) ≡ none → (length bs ≡ length rs * z.width) × (alive m.snapshots t ≡ true)
unfolding border_tests
passed z m t rs bs e =
    let (a, e₁) = refusal_passed (leb 65 (length rs)) TooManyRows _ e in
    let (b, e₂) = refusal_passed (not (eqb (length bs) (length rs * z.width))) BadLength _ e₁ in
    let (c, e₃) = refusal_passed (not (alive m.snapshots t)) UnknownTag _ e₂ in
    (eqb-true _ _ (not-false _ b), not-false _ c)

-- another number is none of these
never : (v : Option Refusal) {A : Type 0} → AtRow v → unless v number 0 ≢ 0 → unless v number 0 ≢ 3 → unless v number 0 ≢ 24 → A
never none h o p q = absurd (o refl)
never (some r) (inl h) o p q = absurd (p h)
never (some r) (inr h) o p q = absurd (q h)

pub border_early : (z : Size) (m : Model) (t : ℕ) (rs bs : List ℕ) → (reply z m (border t rs bs)).number ≢ 0 → (reply z m (border t rs bs)).number ≢ 3 → (reply z m (border t rs bs)).number ≢ 24
    → (reply z m (border t rs bs)).numbers ≡ 0 ∷ []
unfolding reply bordered
border_early z m t rs bs = go (refusal (border_tests z m.snapshots t rs bs)) refl
  where
    go : (v : Option Refusal) → refusal (border_tests z m.snapshots t rs bs) ≡ v
        → (let e = unless v (stopped m) (in_order (λ n x. verdict z n (write t x.0 x.1)) (λ n x. effect n (write t x.0 x.1)) m (rows_with z.width rs bs)) in
        (ended_with e).number ≢ 0 → (ended_with e).number ≢ 3 → (ended_with e).number ≢ 24 → (ended_with e).numbers ≡ 0 ∷ [])
    go none e o p q = let (l, a) = passed z m t rs bs e in never (in_order (λ n x. verdict z n (write t x.0 x.1)) (λ n x. effect n (write t x.0 x.1)) m (rows_with z.width rs bs)).refusal (rows_at_row z t m (rows_with z.width rs bs) a (rows_wide z.width rs bs l)) o p q
    go (some r) e o p q = refl
