-- The ways out of a write: the tests in a row. Assumes nothing.
use Rattle.std.specs.Prelude.{◌≡◌, not, List, ◌∷◌, ℕ, ◌*◌, ◌<◌, eqb, leb, length}
use Rattle.std.proofs.Common.{◌∙◌, arith, eq-eqb, ne_eqb, le-leb}
use Rattle.std.proofs.Math.Path.{ap}
use Rattle.std.proofs.Math.Option.{Option, none, some}
use Rattle.std.proofs.lemmas.Bool.{lt-leb}
use Rattle.basics.specs.Decide.{not_yes, not_no}
use Rattle.records.specs.Records.{Records, lives}
use Rattle.trees.specs.Trees.{version}
use Rattle.answers.specs.declared.Refusal.TheVariants.{BadLength, BadRow, UnknownTag}
use Rattle.answers.specs.Tests.{Tests, refusal}
use Rattle.answers.proofs.Laws.{refusal_here, refusal_next}
use Rattle.writes.specs.Touching.{saved_at, room_test}
use Rattle.writes.specs.Writing.{write_tests, write_verdict, written}

module _ (z : Records) (places : List ℕ) (tag r : ℕ) (bs : List ℕ) where
  tag_test : Tests
  tag_test = (not (lives z tag), UnknownTag) ∷ room_test z places (version z.tree tag) r bs

  row_test : Tests
  row_test = (leb z.size.rows r, BadRow) ∷ tag_test

  width_test : Tests
  width_test = (not (eqb (length bs) z.size.width), BadLength) ∷ row_test

  pub places_refused : (length places ≡ z.size.places * z.size.width → ⊥) → write_verdict z places tag r bs ≡ some BadLength
  unfolding write_verdict write_tests
  places_refused h = refusal_here BadLength _ (not_yes (ne_eqb _ _ h))

  module _ (p : length places ≡ z.size.places * z.size.width) where
    places_passed : write_verdict z places tag r bs ≡ refusal width_test
    unfolding write_verdict write_tests width_test row_test tag_test
    places_passed = refusal_next BadLength _ (not_no (eq-eqb _ _ p))

    pub width_refused : (length bs ≡ z.size.width → ⊥) → write_verdict z places tag r bs ≡ some BadLength
    unfolding width_test
    width_refused h = places_passed ∙ refusal_here BadLength row_test (not_yes (ne_eqb _ _ h))

    module _ (w : length bs ≡ z.size.width) where
      width_passed : write_verdict z places tag r bs ≡ refusal row_test
      unfolding width_test
      width_passed = places_passed ∙ refusal_next BadLength row_test (not_no (eq-eqb _ _ w))

      pub row_refused : (r < z.size.rows → ⊥) → write_verdict z places tag r bs ≡ some BadRow
      unfolding row_test
      row_refused h = width_passed ∙ refusal_here BadRow tag_test (le-leb z.size.rows r (omega arith))

      module _ (l : r < z.size.rows) where
        row_passed : write_verdict z places tag r bs ≡ refusal tag_test
        unfolding row_test
        row_passed = width_passed ∙ refusal_next BadRow tag_test (lt-leb z.size.rows r l)

        pub tag_refused : version z.tree tag ≡ none → write_verdict z places tag r bs ≡ some UnknownTag
        unfolding tag_test lives
        tag_refused v = row_passed ∙ refusal_here UnknownTag _ (rw v)

        -- the last test is left
        pub tag_passed : (v : ℕ) → version z.tree tag ≡ some v → write_verdict z places tag r bs ≡ refusal (room_test z places (some v) r bs)
        unfolding tag_test lives
        tag_passed v h = row_passed ∙ refusal_next UnknownTag _ (rw h) ∙ ap (λ (o : Option ℕ). refusal (room_test z places o r bs)) h

  pub written_version : (v : ℕ) → version z.tree tag ≡ some v → written z places tag r bs ≡ saved_at z places r bs v
  unfolding written
  written_version v h = rw h
