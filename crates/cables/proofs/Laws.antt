-- The bits of a turned row, and the three ways out of a turn. Assumes nothing.
use Rattle.std.specs.Prelude.{◌≡◌, ◌≢◌, not, ℕ, ◌<◌, eqb, length}
use Rattle.std.proofs.Common.{sym, ◌∙◌, arith, eq-eqb, ne_eqb}
use mathlib.Core.List.{List, [], ◌∷◌}
use Rattle.std.proofs.Math.Option.{none, some}
use Rattle.basics.specs.Decide.{not_yes, not_no}
use Rattle.answers.specs.declared.Refusal.TheVariants.{BadLength}
use Rattle.answers.specs.Tests.{Tests, refusal}
use Rattle.answers.proofs.Laws.{refusal_here, refusal_next, refusal_none}
use Rattle.rowbits.specs.Bits.{bit_of, Bytes}
use Rattle.rowbits.specs.Laws.{bit_two, row_size, row_bit, row_bytes, same_bits}
use Rattle.cables.specs.Cables.{turned, turn_verdict, Turns}

-- a turned row

module _ (f : ℕ → ℕ) (row : List ℕ) where
  pub turned_size : length (turned f row) ≡ 128
  unfolding turned
  turned_size = row_size 128 _

  pub turned_bytes : Bytes (turned f row)
  unfolding turned
  turned_bytes = row_bytes 128 _ (λ n. bit_two row (f n))

  pub turned_bit : (n : ℕ) → n < 1024 → bit_of (turned f row) n ≡ bit_of row (f n)
  unfolding turned
  turned_bit n l = row_bit 128 _ (λ m. bit_two row (f m)) n (omega arith)

  -- it is the row that has its bits
  pub turned_told : (out : List ℕ) → length out ≡ 128 → Bytes out → ((n : ℕ) → n < 1024 → bit_of out n ≡ bit_of row (f n)) → out ≡ turned f row
  turned_told out s b e = same_bits out (turned f row) b turned_bytes (s ∙ sym turned_size) (λ n l. e n (omega (arith, l, s)) ∙ sym (turned_bit n (omega (arith, l, s))))

-- a turn

out_test : List ℕ → Tests
out_test out = (not (eqb (length out) 128), BadLength) ∷ []

module _ (turn : List ℕ → List ℕ) (row out : List ℕ) where
  refuses : turn_verdict row out ≡ some BadLength → Turns turn row out 2 out
  refuses v = record { answers = rw v; leaves = rw v }

  pub row_refused : length row ≢ 128 → Turns turn row out 2 out
  unfolding turn_verdict out_test
  row_refused e = refuses (refusal_here BadLength (out_test out) (not_yes (ne_eqb _ _ e)))

  module _ (s : length row ≡ 128) where
    row_passed : turn_verdict row out ≡ refusal (out_test out)
    unfolding turn_verdict out_test
    row_passed = refusal_next BadLength (out_test out) (not_no (eq-eqb _ _ s))

    pub out_refused : length out ≢ 128 → Turns turn row out 2 out
    unfolding out_test
    out_refused e = refuses (row_passed ∙ refusal_here BadLength [] (not_yes (ne_eqb _ _ e)))

    pub accepted : length out ≡ 128 → turn_verdict row out ≡ none
    unfolding out_test
    accepted e = row_passed ∙ refusal_next BadLength [] (not_no (eq-eqb _ _ e)) ∙ refusal_none

    pub turns : length out ≡ 128 → (out' : List ℕ) → out' ≡ turn row → Turns turn row out 0 out'
    turns e out' t = record { answers = rw (accepted e); leaves = rw (accepted e) t }
