-- Where runs begin: the records of an accepted opening agree with the opened model, and sound records from elsewhere with the model that starts from them. Assumes nothing.
use Rattle.std.specs.Prelude.{◌≡◌, refl, not, List, ℕ, ◌-◌, ◌*◌, eqb, length, replicate}
use Rattle.std.proofs.Common.{sym, ◌∙◌, ap, eqb-true}
use Rattle.std.proofs.Math.Option.{none}
use Rattle.std.proofs.lemmas.List.{length-replicate}
use Rattle.std.proofs.lemmas.Bool.{not-false}
use Rattle.measures.specs.declared.Size.{Size}
use Rattle.measures.specs.Measures.{Within}
use Rattle.trees.specs.declared.Tree.{Tree}
use Rattle.records.specs.Records.{Records, records_of}
use Rattle.answers.specs.declared.Refusal.TheVariants.{BadSize, BadLength}
use Rattle.model.specs.Model.{opened}
use Rattle.answers.specs.Tests.{open_tests, in_measure, verdict_number}
use Rattle.answers.proofs.Laws.{refusal_passed, measure_in}
use Rattle.edits.specs.Edits.{Whole}
use Rattle.opening.specs.Opening.{first_tree, open_verdict, Opening}
use Rattle.opening.specs.First.{first_sound}
use Rattle.view.specs.View.{Store, started}
use Rattle.view.proofs.Starts.{start_agrees, open_agrees}
use Rattle.steps.specs.Calls.{Runs}

-- what an accepted opening has passed
pub record Fits (z : Size) (places node row : List ℕ) : Type 0 where
  pub within : Within z
  pub bytes : length places ≡ z.places * z.width
  pub nodes : length node ≡ z.places - z.rows
  pub rows : length row ≡ z.places - z.rows

pub open_fits : (z : Size) (places node row : List ℕ) → open_verdict z places node row ≡ none → Fits z places node row
unfolding open_verdict open_tests
open_fits z places node row e =
    let (a, e₁) = refusal_passed (not (in_measure z)) BadSize _ e in
    let (b, e₂) = refusal_passed (not (eqb (length places) (z.places * z.width))) BadLength _ e₁ in
    let (c, e₃) = refusal_passed (not (eqb (length node) (z.places - z.rows))) BadLength _ e₂ in
    let (d, e₄) = refusal_passed (not (eqb (length row) (z.places - z.rows))) BadLength _ e₃ in
    record { within = measure_in z (not-false _ a); bytes = eqb-true _ _ (not-false _ b); nodes = eqb-true _ _ (not-false _ c); rows = eqb-true _ _ (not-false _ d) }

first_whole : Whole first_tree
first_whole = record { state = refl; tag = refl; parent = refl }

-- after an accepted opening
pub open_call : (z : Size) (places node row : List ℕ) (number : ℕ) (tree : Tree) (places' node' row' : List ℕ) → Opening z places node row number tree places' node' row'
    → open_verdict z places node row ≡ none → (number ≡ 0) × Runs (records_of z tree node' row') places' (opened z)
open_call z places node row number tree places' node' row' o v =
    let f = open_fits z places node row v in
    let n = length node in
    let zeros : ℕ → List ℕ = λ k. replicate k 0 in
    let t : tree ≡ first_tree = rw v at o.grows in
    let p : places' ≡ zeros (length places) = rw v at o.bytes in
    let k : node' ≡ zeros n = rw v at o.nodes in
    let r : row' ≡ zeros n = (rw v at o.rows) ∙ ap zeros (f.rows ∙ sym f.nodes) in (
      o.answers ∙ ap verdict_number v,
      rw (t, p, k, r, f.bytes) (record {
        store = record { sound = first_sound z f.within n f.nodes; size = length-replicate (z.places * z.width) 0 };
        whole = first_whole;
        agrees = open_agrees z f.within n f.nodes;
      }),
    )

-- at sound records from elsewhere, with P × B bytes of places
pub start_call : (z : Records) (places : List ℕ) → Store z places → Whole z.tree → Runs z places (started z places)
start_call z places st w = record { store = st; whole = w; agrees = start_agrees z places st }
