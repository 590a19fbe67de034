-- The store's tests of a write are the place map's. Assumes nothing.
use Rattle.std.specs.Prelude.{◌≡◌, true, not, ◌&&◌, List, [], ◌∷◌, ℕ, leb}
use Rattle.std.proofs.Math.Path.{sym}
use Rattle.std.proofs.Common.{◌∙◌, eq-eqb}
use Rattle.std.proofs.Math.Option.{some}
use Rattle.std.proofs.lemmas.Bool.{not-false}
use Rattle.basics.specs.Decide.{not_no}
use Rattle.basics.specs.Equal.{equal}
use Rattle.measures.specs.Measures.{bytes_at}
use Rattle.trees.specs.Reading.{place}
use Rattle.records.specs.Records.{Records, table, lives}
use Rattle.trees.specs.Trees.{version}
use Rattle.model.specs.Call.{write}
use Rattle.answers.specs.declared.Refusal.TheVariants.{BadLength, PlacesFull}
use Rattle.copies.specs.Copies.{shared, places_used}
use Rattle.model.specs.Model.{tests}
use Rattle.answers.specs.Tests.{refusal}
use Rattle.answers.proofs.Laws.{refusal_next, refusal_same}
use Rattle.agreement.specs.Agree.{map_verdict}
use Rattle.edits.proofs.Solve.{lives_node, tag_place_lem}
use Rattle.view.specs.View.{view, Store}
use Rattle.view.proofs.Viewed.{view_alive, view_used}
use Rattle.writes.specs.Touching.{untouched_at, room_test}
use Rattle.writes.specs.Writing.{write_tests, write_verdict}
use Rattle.steps.specs.SharedTags.{shared_view}

module _ (z : Records) (places : List ℕ) (st : Store z places) (tag r : ℕ) (bs : List ℕ) where
  -- what the version reads there
  pub reads : (v : ℕ) → version z.tree tag ≡ some v → (view z places).content ((view z places).place (tag, r)) ≡ bytes_at z.size.width places (place z.tree (table z) v r)
  unfolding view
  reads v h = rw (tag_place_lem z tag v r h)

  -- the last test, of a living version
  same_room : lives z tag ≡ true
      → refusal ((
        shared (view z places).tags (view z places).place tag r && leb z.size.places (places_used z.size.rows (view z places).tags (view z places).place)
            && not (equal bs ((view z places).content ((view z places).place (tag, r)))),
        PlacesFull,
      ) ∷ [])
      ≡ refusal (room_test z places (version z.tree tag) r bs)
  unfolding room_test untouched_at
  same_room l = let (v, h, a, g) = lives_node z tag l in rw (h, shared_view z st.sound places tag v r h, view_used z st.sound places, reads v h)

  pub same_verdict : map_verdict z.size (view z places) (write tag r bs) ≡ write_verdict z places tag r bs
  unfolding map_verdict tests write_verdict write_tests
  same_verdict =
      rw (view_alive z st.sound places tag) (refusal_same _ _ _ _ (λ x. refusal_same _ _ _ _ (λ y. refusal_same _ _ _ _ (λ l. same_room (not-false _ l)))))
      ∙ sym (refusal_next BadLength _ (not_no (eq-eqb _ _ st.size)))
