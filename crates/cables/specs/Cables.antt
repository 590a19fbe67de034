-- A row turned to cable order or back, and what the turn answers and leaves (SPEC 14). Definitions only. Assumes nothing.
use Rattle.std.specs.Prelude.{◌≡◌, not, List, [], ◌∷◌, ℕ, eqb, length}
use Rattle.std.proofs.Math.Option.{Option}
use Rattle.answers.specs.declared.Refusal.{Refusal}
use Rattle.answers.specs.declared.Refusal.TheVariants.{BadLength}
use Rattle.answers.specs.Tests.{refusal, unless, verdict_number}
use Rattle.hooks.specs.Order.{hook_at, position_of}
use Rattle.rowbits.specs.Bits.{bit_of, row_of}

-- the row of 128 bytes whose bit n is bit f n of another
unfoldable pub turned : (ℕ → ℕ) → List ℕ → List ℕ
turned f row = row_of 128 (λ n. bit_of row (f n))

-- in cable order a position has the bit of its hook; back in the order of the hooks, a hook has the bit of its position
abbrev pub to_cable : List ℕ → List ℕ
to_cable row = turned hook_at row

abbrev pub from_cable : List ℕ → List ℕ
from_cable cable = turned position_of cable

-- a row and an output of 128 bytes each, or refused
unfoldable pub turn_verdict : List ℕ → List ℕ → Option Refusal
turn_verdict row out = refusal ((not (eqb (length row) 128), BadLength) ∷ (not (eqb (length out) 128), BadLength) ∷ [])

-- what a turn answers, and how it leaves the output that was lent: as it was, if it is refused
pub record Turns (turn : List ℕ → List ℕ) (row out : List ℕ) (answer : ℕ) (out' : List ℕ) : Type 0 where
  pub answers : answer ≡ verdict_number (turn_verdict row out)
  pub leaves : out' ≡ unless (turn_verdict row out) (λ r. out) (turn row)
