-- Tests in a row, each with its refusal: the first that holds refuses. Then the tests of an opening. Definitions only. Assumes nothing.
use Rattle.std.specs.Prelude.{Bool, true, false, not, ◌&&◌, List, [], ◌∷◌, ℕ, ◌-◌, ◌*◌, eqb, leb}
use Rattle.std.proofs.Math.Option.{Option, none, some}
use Rattle.measures.specs.declared.Size.{Size}
use Rattle.answers.specs.declared.Refusal.{Refusal}
use Rattle.answers.specs.declared.Refusal.TheVariants.{BadSize, BadLength}
use Rattle.answers.specs.Answers.{number}

abbrev pub Tests : Type 0
Tests = List (Bool × Refusal)

-- one test in front: it refuses, or the rest decides
abbrev pub or_else : Bool → Refusal → Option Refusal → Option Refusal
or_else true r rest = some r
or_else false r rest = rest

unfoldable pub refusal : Tests → Option Refusal
refusal [] = none
refusal (t ∷ ts) = or_else t.0 t.1 (refusal ts)

-- refused with its reason, or else
abbrev pub unless {ℓ} : {A : Type ℓ} → Option Refusal → (Refusal → A) → A → A
unless none f a = a
unless (some r) f a = f r

-- the number that a verdict answers, 0 if it accepts
abbrev pub verdict_number : Option Refusal → ℕ
verdict_number v = unless v number 0

-- Opening

unfoldable pub in_measure : Size → Bool
in_measure z =
    (leb 1 z.rows && leb z.rows 1024) && (leb 1 z.width && leb z.width 1024) && (leb z.rows z.places && leb z.places 4096)

-- opening sees the lent buffers by their lengths: the places, and the two halves of the table
unfoldable pub open_tests : Size → ℕ → ℕ → ℕ → Tests
open_tests z places nodes rows =
    (not (in_measure z), BadSize)
    ∷ (not (eqb places (z.places * z.width)), BadLength)
    ∷ (not (eqb nodes (z.places - z.rows)), BadLength)
    ∷ (not (eqb rows (z.places - z.rows)), BadLength)
    ∷ []
