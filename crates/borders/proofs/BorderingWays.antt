-- The ways out of a border: the tests in a row. Assumes nothing.
use Rattle.std.specs.Prelude.{◌≡◌, not, ℕ, ◌*◌, ◌≤◌, ◌<◌, eqb, length}
use Rattle.std.proofs.Math.Path.{refl}
use Rattle.std.proofs.Common.{◌∙◌, eq-eqb, ne_eqb, le-leb, arith}
use mathlib.Core.List.{List, [], ◌∷◌}
use Rattle.std.proofs.Math.Option.{Option, none, some}
use Rattle.std.proofs.lemmas.Bool.{lt-leb}
use Rattle.basics.specs.Decide.{not_yes, not_no}
use Rattle.measures.specs.Measures.{rows_with}
use Rattle.records.specs.Records.{Records, lives}
use Rattle.trees.specs.Trees.{version}
use Rattle.answers.specs.declared.Refusal.{Refusal}
use Rattle.answers.specs.declared.Refusal.TheVariants.{TooManyRows, BadLength, UnknownTag}
use Rattle.answers.specs.Answers.{number}
use Rattle.answers.specs.Tests.{Tests, refusal, unless}
use Rattle.answers.proofs.Laws.{refusal_here, refusal_next, refusal_none}
use Rattle.answers.specs.InOrder.{stopped}
use Rattle.answers.specs.InOrderLaws.{order_none}
use Rattle.owning.specs.Owning.{Held, held}
use Rattle.borders.specs.Bordering.{border_tests, border_verdict, row_verdict, row_written, rows_written, bordered, Ends}

module _ (z : Records) (places : List ℕ) (tag : ℕ) (rows bytes : List ℕ) where
  tag_test : Tests
  tag_test = (not (lives z tag), UnknownTag) ∷ []

  bytes_test : Tests
  bytes_test = (not (eqb (length bytes) (length rows * z.size.width)), BadLength) ∷ tag_test

  places_test : Tests
  places_test = (not (eqb (length places) (z.size.places * z.size.width)), BadLength) ∷ bytes_test

  -- refused before a row is done, or not
  refused_first : {x : Refusal} → border_verdict z places tag rows bytes ≡ some x → Ends (bordered z places tag rows bytes) (number x) 0 (held z.tree z.node z.row places)
  unfolding bordered
  refused_first e = record { numbered = rw e; counted = rw e; left = rw e }

  passed_all : border_verdict z places tag rows bytes ≡ none → {n d : ℕ} {got : Held} → Ends (rows_written z.size tag (held z.tree z.node z.row places) rows bytes) n d got
      → Ends (bordered z places tag rows bytes) n d got
  unfolding bordered
  passed_all e k = record { numbered = rw e k.numbered; counted = rw e k.counted; left = rw e k.left }

  -- where no row was done, nothing has changed
  pub bordered_none : (bordered z places tag rows bytes).done ≡ 0 → (bordered z places tag rows bytes).left ≡ held z.tree z.node z.row places
  unfolding bordered
  bordered_none = go (border_verdict z places tag rows bytes)
    where
      go : (v : Option Refusal) → (let e = unless v (stopped (held z.tree z.node z.row places)) (rows_written z.size tag (held z.tree z.node z.row places) rows bytes) in
          e.done ≡ 0 → e.left ≡ held z.tree z.node z.row places)
      go none h = order_none (row_verdict z.size tag) (row_written z.size tag) (held z.tree z.node z.row places) (rows_with z.size.width rows bytes) h
      go (some r) h = refl

  pub many_refused : 64 < length rows → Ends (bordered z places tag rows bytes) 25 0 (held z.tree z.node z.row places)
  unfolding border_verdict border_tests
  many_refused l = refused_first {x = TooManyRows} (refusal_here TooManyRows _ (le-leb 65 (length rows) (omega arith)))

  module _ (few : length rows ≤ 64) where
    few_passed : border_verdict z places tag rows bytes ≡ refusal places_test
    unfolding border_verdict border_tests places_test bytes_test tag_test
    few_passed = refusal_next TooManyRows _ (lt-leb 65 (length rows) (omega arith))

    pub places_refused : (length places ≡ z.size.places * z.size.width → ⊥) → Ends (bordered z places tag rows bytes) 2 0 (held z.tree z.node z.row places)
    unfolding places_test
    places_refused h = refused_first {x = BadLength} (few_passed ∙ refusal_here BadLength bytes_test (not_yes (ne_eqb _ _ h)))

    module _ (p : length places ≡ z.size.places * z.size.width) where
      places_passed : border_verdict z places tag rows bytes ≡ refusal bytes_test
      unfolding places_test
      places_passed = few_passed ∙ refusal_next BadLength bytes_test (not_no (eq-eqb _ _ p))

      pub bytes_refused : (length bytes ≡ length rows * z.size.width → ⊥) → Ends (bordered z places tag rows bytes) 2 0 (held z.tree z.node z.row places)
      unfolding bytes_test
      bytes_refused h = refused_first {x = BadLength} (places_passed ∙ refusal_here BadLength tag_test (not_yes (ne_eqb _ _ h)))

      module _ (b : length bytes ≡ length rows * z.size.width) where
        bytes_passed : border_verdict z places tag rows bytes ≡ refusal tag_test
        unfolding bytes_test
        bytes_passed = places_passed ∙ refusal_next BadLength tag_test (not_no (eq-eqb _ _ b))

        pub tag_refused : version z.tree tag ≡ none → Ends (bordered z places tag rows bytes) 21 0 (held z.tree z.node z.row places)
        unfolding tag_test lives
        tag_refused v = refused_first {x = UnknownTag} (bytes_passed ∙ refusal_here UnknownTag [] (rw v))

        -- the rows are left
        pub tag_passed : (v : ℕ) → version z.tree tag ≡ some v → {n d : ℕ} {got : Held} → Ends (rows_written z.size tag (held z.tree z.node z.row places) rows bytes) n d got
            → Ends (bordered z places tag rows bytes) n d got
        unfolding tag_test lives
        tag_passed v h = passed_all (bytes_passed ∙ refusal_next UnknownTag [] (rw h) ∙ refusal_none)
