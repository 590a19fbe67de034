-- A delete is a step of the place map: what it answers and leaves of a sound store is what the reference model's tests say. Assumes nothing.
use Rattle.std.specs.Prelude.{◌≡◌, ◌≢◌, true, not, ◌&&◌, List, ℕ, ◌<◌, eqb}
use Rattle.std.proofs.Math.Path.{refl, sym, ap}
use Rattle.std.proofs.Common.{◌∙◌, eq-eqb, ne_eqb}
use Rattle.std.proofs.Math.Logic.{by_cases}
use Rattle.std.proofs.Math.Option.{Option, none, some}
use Rattle.std.proofs.Math.Decide.{ℕ_discrete}
use Rattle.basics.specs.Decide.{both, not_of}
use Rattle.measures.specs.Measures.{bytes_at}
use Rattle.records.specs.Records.{Records, lives, tag_place}
use Rattle.model.specs.Call.{delete}
use Rattle.answers.specs.declared.Refusal.{Refusal}
use Rattle.answers.specs.Answers.{done, refused}
use Rattle.copies.specs.Copies.{alive, without}
use Rattle.model.specs.Model.{tests, accepted}
use Rattle.answers.specs.Tests.{unless}
use Rattle.maps.specs.Map.{Alike}
use Rattle.agreement.specs.Agree.{Effect, map_verdict, map_answer, Step}
use Rattle.copies.specs.Living.{alive_gone, alive_stays}
use Rattle.edits.specs.Edits.{Whole}
use Rattle.removal.specs.Removal.{Deleted}
use Rattle.view.specs.View.{view, Store}
use Rattle.view.proofs.Viewed.{view_alive}
use Rattle.deletes.specs.Deleting.{Left, left, delete_tests, delete_verdict, deleted_at, deleted}
use Rattle.intact.specs.Intact.{Intact}
use Rattle.removed.specs.RemovedVersion.{removed}
use Rattle.removed.specs.Removed.{left_records, delete_left, delete_allowed, delete_intact}

module _ (z : Records) (places : List ℕ) (st : Store z places) (tag : ℕ) where
  -- the store's tests are the map's
  same_verdict : map_verdict z.size (view z places) (delete tag) ≡ delete_verdict z tag
  unfolding map_verdict delete_verdict tests delete_tests
  same_verdict = rw (view_alive z st.sound places tag)

  -- a deletion seen from the map
  module _ (l : Left) (off : tag ≢ 0) (d : Deleted z (left_records z.size l) tag) where
    living_left : (u : ℕ) → alive (without tag (view z places).tags) u ≡ (not (eqb u tag) && lives z u)
    living_left u = by_cases (ℕ_discrete u tag)
        (λ e. rw (eq-eqb u tag e) (rw e (alive_gone (view z places).tags tag off)))
        (λ e. rw (ne_eqb u tag e) (alive_stays (view z places).tags tag u e ∙ view_alive z st.sound places u))

    place_left : (u r : ℕ) → alive (without tag (view z places).tags) u ≡ true → r < z.size.rows → tag_place (left_records z.size l) u r ≡ tag_place z u r
    place_left u r k low =
        let (x, y) = both (not (eqb u tag)) (lives z u) (sym (living_left u) ∙ k) in
        d.same u r y (not_of u tag x) low

    deleted_effect : Effect z.size (view z places) (delete tag) (view (left_records z.size l) places)
    unfolding Effect view
    deleted_effect = record {
      tags = λ u. view_alive (left_records z.size l) d.sound places u ∙ d.living u ∙ sym (living_left u);
      place = λ c k. place_left c.0 c.1 k.0 k.1;
      content = λ c k. ap (bytes_at z.size.width places) (place_left c.0 c.1 k.0 k.1);
    }

module _ (z : Records) (places : List ℕ) (st : Store z places) (w : Whole z.tree) (tag : ℕ) where
  allowed_removed : delete_verdict z tag ≡ none → Effect z.size (view z places) (delete tag) (view (left_records z.size (deleted z tag)) places)
  unfolding deleted
  allowed_removed e =
      let (off, (v, h, a)) = delete_allowed z st.sound tag e in
      rw h (deleted_effect z places st tag (deleted_at z v) off (removed z st.sound w tag v h a))

  abbrev leaves : Option Refusal → Left
  leaves o = unless o (λ x. left z.tree z.node z.row) (deleted z tag)

  -- one call
  pub delete_step : Step z.size (view z places) (delete tag) (unless (delete_verdict z tag) refused done) (view (left_records z.size (delete_left z tag)) places)
  unfolding map_answer accepted
  delete_step = record {
    says = ap (λ (o : Option Refusal). unless o refused done) (sym (same_verdict z places st tag));
    goes = rw (same_verdict z places st tag) (go (delete_verdict z tag) refl);
  }
    where
      go : (o : Option Refusal) → delete_verdict z tag ≡ o
          → unless o (λ x. Alike z.size.rows (view (left_records z.size (leaves o)) places) (view z places)) (Effect z.size (view z places) (delete tag) (view (left_records z.size (leaves o)) places))
      go none e = allowed_removed e
      go (some x) e = record { tags = λ u. refl; place = λ c l. refl; content = λ c l. refl }

  stays : Intact (left_records z.size (delete_left z tag)) places
  stays = delete_intact z places (record { sound = st.sound; size = st.size; whole = w }) tag

  -- and the store is sound after it
  pub delete_store : Store (left_records z.size (delete_left z tag)) places
  delete_store = record { sound = stays.sound; size = stays.size }

  -- its arrays stay whole
  pub delete_whole : Whole (delete_left z tag).tree
  delete_whole = stays.whole
