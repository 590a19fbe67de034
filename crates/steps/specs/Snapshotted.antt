-- A snapshot is a step of the place map: what `snapshots::snapshot` answers and leaves of a sound store is what the reference model's tests say. Assumes nothing.
use Rattle.std.specs.Prelude.{◌≡◌, Bool, true, cond, ◌||◌, List, ◌∷◌, ℕ}
use Rattle.std.proofs.Math.Path.{refl, sym, ap}
use Rattle.std.proofs.Common.{◌∙◌, eq-eqb, ne_eqb}
use Rattle.std.proofs.Math.Logic.{by_cases}
use Rattle.std.proofs.Math.Option.{Option, none, some}
use Rattle.std.proofs.Math.Decide.{ℕ_discrete}
use Rattle.std.proofs.Math.Dec.{eqb}
use Rattle.measures.specs.Measures.{bytes_at}
use Rattle.trees.specs.declared.Tree.{Tree}
use Rattle.records.specs.Records.{Records, lives, tag_place}
use Rattle.model.specs.Call.{snapshot}
use Rattle.answers.specs.declared.Refusal.{Refusal}
use Rattle.answers.specs.Answers.{done, refused}
use Rattle.copies.specs.Copies.{alive, adopt}
use Rattle.model.specs.Model.{tests, accepted}
use Rattle.answers.specs.Tests.{unless}
use Rattle.maps.specs.Map.{Alike}
use Rattle.agreement.specs.Agree.{Effect, map_verdict, map_answer, Step}
use Rattle.copies.specs.Living.{alive_cons}
use Rattle.edits.specs.Edits.{with_tree, Whole, Copied}
use Rattle.view.specs.View.{view, Store}
use Rattle.view.proofs.Viewed.{view_alive, view_snapshots}
use Rattle.takes.specs.Taking.{snapshot_tests, snapshot_verdict, snapshot_tree}
use Rattle.takes.proofs.Taken.{snapshot_allowed, snapshot_copied}
use Rattle.took.specs.Took.{snapshot_intact}

-- the tree that the call leaves
abbrev pub snapshot_left : Records → ℕ → ℕ → Tree
snapshot_left z source new = unless (snapshot_verdict z source new) (λ r. z.tree) (snapshot_tree z.tree source new)

module _ (z : Records) (places : List ℕ) (st : Store z places) (source new : ℕ) where
  -- the store's tests are the map's
  same_verdict : map_verdict z.size (view z places) (snapshot source new) ≡ snapshot_verdict z source new
  unfolding map_verdict snapshot_verdict tests snapshot_tests
  same_verdict = rw (view_alive z st.sound places source, view_alive z st.sound places new, view_snapshots z st.sound places)

  -- a snapshot seen from the map
  module _ (t' : Tree) (c : Copied z (with_tree z t') source new) where
    copied_place : (u r : ℕ) → (eqb u new || lives z u) ≡ true → tag_place (with_tree z t') u r ≡ tag_place z (cond (eqb u new) source u) r
    copied_place u r l = by_cases (ℕ_discrete u new)
        (λ e. rw (eq-eqb u new e, e) (c.new r))
        (λ e. rw (ne_eqb u new e) (c.old u r (rw (ne_eqb u new e) at l) e))

    copied_effect : Effect z.size (view z places) (snapshot source new) (view (with_tree z t') places)
    unfolding Effect adopt view
    copied_effect =
        let tags = (view z places).tags in
        let live : (u : ℕ) → alive (new ∷ tags) u ≡ (eqb u new || lives z u) = λ u. alive_cons tags new u ∙ ap (λ (b : Bool). eqb u new || b) (view_alive z st.sound places u) in
        record {
          tags = λ u. view_alive (with_tree z t') c.sound places u ∙ c.living u ∙ sym (live u);
          place = λ d l. copied_place d.0 d.1 (sym (live d.0) ∙ l.0);
          content = λ d l. ap (bytes_at z.size.width places) (copied_place d.0 d.1 (sym (live d.0) ∙ l.0));
        }

  -- one call
  pub snapshot_step : Whole z.tree → Step z.size (view z places) (snapshot source new) (unless (snapshot_verdict z source new) refused done) (view (with_tree z (snapshot_left z source new)) places)
  unfolding map_answer accepted
  snapshot_step w = record { says = ap (λ (v : Option Refusal). unless v refused done) (sym same_verdict); goes = rw same_verdict (go (snapshot_verdict z source new) refl) }
    where
      go : (v : Option Refusal) → snapshot_verdict z source new ≡ v
          → unless v (λ r. Alike z.size.rows (view (with_tree z (unless v (λ r. z.tree) (snapshot_tree z.tree source new))) places) (view z places)) (Effect z.size (view z places) (snapshot source new) (view (with_tree z (unless v (λ r. z.tree) (snapshot_tree z.tree source new))) places))
      go none e = copied_effect (snapshot_tree z.tree source new) (snapshot_copied z w st.sound source new (snapshot_allowed z source new e))
      go (some x) e = record { tags = λ u. refl; place = λ c l. refl; content = λ c l. refl }

  -- and the store is sound after it
  pub snapshot_store : Whole z.tree → Store (with_tree z (snapshot_left z source new)) places
  snapshot_store w = let k = snapshot_intact z places (record { sound = st.sound; size = st.size; whole = w }) source new in record { sound = k.sound; size = k.size }
