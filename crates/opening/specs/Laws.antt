-- The two ways out of opening. Assumes nothing.
use Rattle.std.specs.Prelude.{◌≡◌, refl, Bool, not, ℕ, ◌-◌, ◌*◌, length, replicate, eqb}
use Rattle.std.proofs.Common.{◌∙◌, eq-eqb, ne_eqb}
use Rattle.std.proofs.Math.Bool.{true, false}
use mathlib.Core.List.{List, [], ◌∷◌}
use Rattle.std.proofs.Math.Option.{none, some}
use Rattle.basics.specs.Decide.{not_yes, not_no}
use Rattle.measures.specs.declared.Size.{Size}
use Rattle.measures.specs.Measures.{Within}
use Rattle.trees.specs.declared.Tree.{Tree}
use Rattle.answers.specs.declared.Refusal.{Refusal}
use Rattle.answers.specs.declared.Refusal.TheVariants.{BadSize, BadLength}
use Rattle.answers.specs.Answers.{number}
use Rattle.answers.specs.Tests.{Tests, refusal, open_tests, in_measure}
use Rattle.answers.proofs.Laws.{refusal_here, refusal_next, refusal_none, in_measure_lem, measure_in}
use Rattle.opening.specs.Opening.{no_tree, first_tree, open_verdict, Opening}

module _ (z : Size) (places node row : List ℕ) where
  pub opening_refused : (x : Refusal) → open_verdict z places node row ≡ some x → (answer : ℕ) (tree : Tree) → answer ≡ number x → tree ≡ no_tree → Opening z places node row answer tree places node row
  opening_refused x v answer tree a b = record { answers = rw v a; grows = rw v b; bytes = rw v; nodes = rw v; rows = rw v }

  pub opening_done : open_verdict z places node row ≡ none → (places' node' row' : List ℕ) (tree : Tree) → tree ≡ first_tree → places' ≡ replicate (length places) 0 → node' ≡ replicate (length node) 0 → row' ≡ replicate (length row) 0
      → Opening z places node row 0 tree places' node' row'
  opening_done v places' node' row' tree b c d e = record { answers = rw v; grows = rw v b; bytes = rw v c; nodes = rw v d; rows = rw v e }

  -- the tests, one after the other: what is left after the first, the second and the third
  row_test : Tests
  row_test = (not (eqb (length row) (z.places - z.rows)), BadLength) ∷ []

  node_test : Tests
  node_test = (not (eqb (length node) (z.places - z.rows)), BadLength) ∷ row_test

  place_test : Tests
  place_test = (not (eqb (length places) (z.places * z.width)), BadLength) ∷ node_test

  pub size_refused : (Within z → ⊥) → open_verdict z places node row ≡ some BadSize
  unfolding open_verdict open_tests
  size_refused h = refusal_here BadSize _ (not_yes (go (in_measure z) refl))
    where
      go : (b : Bool) → in_measure z ≡ b → in_measure z ≡ false
      go true e = absurd (h (measure_in z e))
      go false e = e

  module _ (w : Within z) where
    size_passed : open_verdict z places node row ≡ refusal place_test
    unfolding open_verdict open_tests place_test node_test row_test
    size_passed = refusal_next BadSize _ (not_no (in_measure_lem z w))

    pub places_refused : (length places ≡ z.places * z.width → ⊥) → open_verdict z places node row ≡ some BadLength
    unfolding place_test
    places_refused h = size_passed ∙ refusal_here BadLength node_test (not_yes (ne_eqb _ _ h))

    module _ (p : length places ≡ z.places * z.width) where
      places_passed : open_verdict z places node row ≡ refusal node_test
      unfolding place_test
      places_passed = size_passed ∙ refusal_next BadLength node_test (not_no (eq-eqb _ _ p))

      pub nodes_refused : (length node ≡ z.places - z.rows → ⊥) → open_verdict z places node row ≡ some BadLength
      unfolding node_test
      nodes_refused h = places_passed ∙ refusal_here BadLength row_test (not_yes (ne_eqb _ _ h))

      module _ (q : length node ≡ z.places - z.rows) where
        nodes_passed : open_verdict z places node row ≡ refusal row_test
        unfolding node_test
        nodes_passed = places_passed ∙ refusal_next BadLength row_test (not_no (eq-eqb _ _ q))

        pub rows_refused : (length row ≡ z.places - z.rows → ⊥) → open_verdict z places node row ≡ some BadLength
        unfolding row_test
        rows_refused h = nodes_passed ∙ refusal_here BadLength [] (not_yes (ne_eqb _ _ h))

        pub accepted : length row ≡ z.places - z.rows → open_verdict z places node row ≡ none
        unfolding row_test
        accepted h = nodes_passed ∙ refusal_next BadLength [] (not_no (eq-eqb _ _ h)) ∙ refusal_none
