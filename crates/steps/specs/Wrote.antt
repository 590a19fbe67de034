-- A write is a step of the place map: what it answers and leaves of a sound store is what the reference model's tests say. Assumes nothing.
use Rattle.std.specs.Prelude.{◌≡◌, ◌≢◌, true, false, List, ℕ, ◌+◌, ◌<◌, set}
use Rattle.std.proofs.Math.Path.{refl, sym, ap}
use Rattle.std.proofs.Common.{◌∙◌}
use Rattle.std.proofs.Math.Logic.{⊎_elim}
use Rattle.std.proofs.Math.Option.{Option, none, some}
use Rattle.basics.specs.Equal.{equal_true, equal_false}
use Rattle.records.specs.Records.{Records, table}
use Rattle.model.specs.Call.{write}
use Rattle.answers.specs.declared.Refusal.{Refusal}
use Rattle.answers.specs.Answers.{done, refused}
use Rattle.copies.specs.Copies.{shared, Live}
use Rattle.model.specs.Model.{accepted}
use Rattle.answers.specs.Tests.{unless}
use Rattle.maps.specs.Map.{Alike, Free, Write, in_place, to_free, saving, Save, untouched, touched}
use Rattle.agreement.specs.Agree.{Effect, map_answer, Step}
use Rattle.edits.specs.Edits.{Whole, FreeEntry}
use Rattle.edits.proofs.Solve.{lives_node, version_lives, tag_place_lem}
use Rattle.nodes.specs.Nodes.{first_child}
use Rattle.sharing.specs.Sharing.{shared_at}
use Rattle.view.specs.View.{view, Store}
use Rattle.view.proofs.Viewed.{view_alive}
use Rattle.owning.specs.Owning.{Held, held, parted_tree, parted_node}
use Rattle.moving.specs.Moving.{held_to_free}
use Rattle.saving.specs.Saving.{saving as saving_held, saving_by}
use Rattle.writes.specs.Storing.{held_in_place}
use Rattle.writes.specs.Touching.{untouched_at}
use Rattle.writes.specs.Writing.{write_verdict, written}
use Rattle.intact.specs.Intact.{Intact}
use Rattle.wrote.specs.WroteAllowed.{Allowed, write_allowed}
use Rattle.intact.specs.Tags.{origin_tag, snapshot_tag}
use Rattle.wrote.specs.WroteRecords.{free_low, free_unread, row_moved, row_saved}
use Rattle.wrote.specs.Wrote.{write_left, held_records, by_ways, untouched_written, write_intact}
use Rattle.steps.specs.SharedTags.{shared_view}
use Rattle.steps.specs.WroteMap.{kept_alike, moved_alike, saved_alike}
use Rattle.steps.specs.WroteVerdict.{reads, same_verdict}

-- what is shown of what an accepted write leaves
record Wrote (z : Records) (places : List ℕ) (tag r : ℕ) (bs : List ℕ) (h : Held) : Type 0 where
  effect : Write z.size.rows (view z places) tag r bs (view (held_records z.size h) h.places)

module _ (z : Records) (places : List ℕ) (st : Store z places) (w : Whole z.tree) (tag r : ℕ) (bs : List ℕ) where
  module _ (v : ℕ) (a : Allowed z tag r bs v) where
    -- an unshared row
    wrote_in_place : shared_at z.tree (table z) v r ≡ false → Wrote z places tag r bs (held_in_place z places r bs v)
    unfolding held_in_place
    wrote_in_place e = record {
      effect = in_place (shared_view z st.sound places tag v r a.stands ∙ e) (kept_alike z places st r bs a.width tag v a.stands live);
    }
      where
        live : Live z.size.rows (view z places).tags (tag, r)
        live = (view_alive z st.sound places tag ∙ version_lives z tag v a.stands, a.low)

    -- a shared row, and a free entry
    module _ (e : shared_at z.tree (table z) v r ≡ true) (i : ℕ) (f : FreeEntry z i) where
      shares : shared (view z places).tags (view z places).place tag r ≡ true
      shares = shared_view z st.sound places tag v r a.stands ∙ e

      unread : Free z.size.rows (view z places) (z.size.rows + i)
      unfolding view
      unread c l p =
          let (n, h, b, g) = lives_node z c.0 (sym (view_alive z st.sound places c.0) ∙ l.0) in
          free_unread z st.sound i n c.1 f.1 b l.1 (sym (tag_place_lem z c.0 n c.1 h) ∙ p)

      low : z.size.rows + i < z.size.places
      low = free_low z st.sound i f.0

      wrote_to_free : v ≢ 0 → Wrote z places tag r bs (held_to_free z places r bs v i)
      unfolding held_to_free
      wrote_to_free off =
          let m = row_moved z st.sound tag r v bs a e i f w off in
          record {
            effect = to_free shares (snapshot_tag z st.sound tag v a.stands off) (z.size.rows + i) unread
                (moved_alike z places st r bs a.width (parted_tree z.tree v) (set z.node i (parted_node z.tree v)) (set z.row i r) tag (z.size.rows + i) low m);
          }

      wrote_saving : v ≡ 0 → Wrote z places tag r bs (saving_by z places r bs (first_child z.tree 0) i)
      unfolding saving_held
      wrote_saving h =
          let (c, k, m) = row_saved z st.sound tag r v bs a e i f h in
          rw k (record {
            effect = saving shares (origin_tag z st.sound tag (a.stands ∙ ap some h)) (z.size.rows + i) unread
                (saved_alike z places st r bs a.width z.tree (set z.node i c) (set z.row i r) (z.size.rows + i) low a.low m);
          })

  allowed_wrote : write_verdict z places tag r bs ≡ none → Save z.size.rows (view z places) tag r bs (view (held_records z.size (written z places tag r bs)) (written z places tag r bs).places)
  unfolding untouched_at
  allowed_wrote e =
      let (v, h, w) = write_allowed z places tag r bs e in
      ⊎_elim
      (λ t. rw (untouched_written z places tag r bs v h t) (untouched (reads z places st tag r bs v h ∙ sym (equal_true bs _ t)) (record { tags = λ u. refl; place = λ c l. refl; content = λ c l. refl })))
      (λ (t, a). touched (λ q. equal_false bs _ t (sym q ∙ reads z places st tag r bs v h)) (by_ways z st.sound places tag r bs v a t (Wrote z places tag r bs) (wrote_in_place v a) (wrote_to_free v a) (wrote_saving v a)).effect)
      w

  abbrev left : Option Refusal → Held
  left o = unless o (λ x. held z.tree z.node z.row places) (written z places tag r bs)

  -- one call
  pub write_step : Step z.size (view z places) (write tag r bs) (unless (write_verdict z places tag r bs) refused done) (view (held_records z.size (write_left z places tag r bs)) (write_left z places tag r bs).places)
  unfolding map_answer accepted Effect
  write_step = record {
    says = ap (λ (o : Option Refusal). unless o refused done) (sym (same_verdict z places st tag r bs));
    goes = rw (same_verdict z places st tag r bs) (go (write_verdict z places tag r bs) refl);
  }
    where
      go : (o : Option Refusal) → write_verdict z places tag r bs ≡ o
          → unless o (λ x. Alike z.size.rows (view (held_records z.size (left o)) (left o).places) (view z places)) (Effect z.size (view z places) (write tag r bs) (view (held_records z.size (left o)) (left o).places))
      go none e = allowed_wrote e
      go (some x) e = record { tags = λ u. refl; place = λ c l. refl; content = λ c l. refl }

  stays : Intact (held_records z.size (write_left z places tag r bs)) (write_left z places tag r bs).places
  stays = write_intact z places (record { sound = st.sound; size = st.size; whole = w }) tag r bs

  -- and the store is sound after it
  pub write_store : Store (held_records z.size (write_left z places tag r bs)) (write_left z places tag r bs).places
  write_store = record { sound = stays.sound; size = stays.size }

  -- its arrays stay whole
  pub write_whole : Whole (write_left z places tag r bs).tree
  write_whole = stays.whole
