-- The three ways to write, seen from the place map: what the changed records and the changed bytes make of the view. Assumes nothing.
use Rattle.std.specs.Prelude.{◌≡◌, refl, true, List, length}
use Rattle.std.proofs.Common.{sym, ◌∙◌}
use Rattle.std.proofs.Math.Path.{ap}
use Rattle.std.proofs.Math.Logic.{by_cases}
use Rattle.std.proofs.Math.Option.{some}
use Prim.Native.Nat.{ℕ, ◌*◌, ◌<◌}
use Rattle.std.proofs.Math.Decide.{ℕ_discrete}
use Rattle.measures.specs.Measures.{bytes_at}
use Rattle.trees.specs.declared.Tree.{Tree}
use Rattle.records.specs.Records.{Records, records_of, table, lives, tag_place}
use Rattle.trees.specs.Trees.{version}
use Rattle.trees.specs.Reading.{place}
use Rattle.records.specs.Sound.{Sound}
use Rattle.copies.specs.Copies.{Cell, alive, put, Live}
use Rattle.maps.specs.Map.{poke, kept, moved, divert, saved, Alike}
use Rattle.copies.specs.Living.{alive_origin}
use Rattle.maps.specs.Updates.{same_cell, put_at_lem, put_off, poke_at, poke_off, divert_origin, divert_renames}
use Rattle.edits.specs.Edits.{Moved, Saved}
use Rattle.edits.proofs.Solve.{tag_place_lem}
use Rattle.placing.specs.Placing.{put_at}
use Rattle.placing.specs.Laws.{bytes_put_same, bytes_put_other}
use Rattle.wrote.specs.WroteBytes.{place_within, home_inside, before_long, between_long}
use Rattle.view.specs.View.{view, Store}
use Rattle.view.proofs.Viewed.{view_alive, view_low, view_rows, view_home}

-- Bytes: a row put at one of n places changes the bytes of that place, and of no other

put_pokes : (width n : ℕ) (places : List ℕ) → length places ≡ n * width → (p : ℕ) (bs : List ℕ) → p < n → length bs ≡ width
    → (q : ℕ) → q < n → bytes_at width (put_at width places p bs) q ≡ poke p bs (bytes_at width places) q
put_pokes width n places size p bs low b q l =
    let inside = place_within width n places size in
    by_cases (ℕ_discrete q p)
    (λ e. rw (poke_at p bs (bytes_at width places) e, e) (bytes_put_same width places p bs b (inside p low)))
    (λ e. rw (poke_off p bs (bytes_at width places) e) (bytes_put_other width places p q bs b (inside p low) (inside q l) e))

poke_same : {A : Type 0} (n : ℕ) (v : A) (f g : ℕ → A) (k : ℕ) → f k ≡ g k → poke n v f k ≡ poke n v g k
unfolding poke
poke_same n v f g k e = rw e

module _ (z : Records) (places : List ℕ) (st : Store z places) (r : ℕ) (bs : List ℕ) (b : length bs ≡ z.size.width) where
  was_living : (c : Cell) → Live z.size.rows (view z places).tags c → lives z c.0 ≡ true
  was_living c l = sym (view_alive z st.sound places c.0) ∙ l.0

  -- in place
  pub kept_alike : (tag v : ℕ) → version z.tree tag ≡ some v → Live z.size.rows (view z places).tags (tag, r)
      → Alike z.size.rows (view z (put_at z.size.width places (place z.tree (table z) v r) bs)) (kept (view z places) (tag, r) bs)
  unfolding view
  kept_alike tag v h live = record {
    tags = λ u. refl;
    place = λ c l. refl;
    content = λ c l. rw (← tag_place_lem z tag v r h) (put_pokes z.size.width z.size.places places st.size (tag_place z tag r) bs (low (tag, r) live) b (tag_place z c.0 c.1) (low c l));
  }
    where
      low : (c : Cell) → Live z.size.rows (view z places).tags c → tag_place z c.0 c.1 < z.size.places
      low = view_low z st.sound places

  -- the bytes that are written over, saved to place q before
  abbrev before : List ℕ
  before = bytes_at z.size.width places r

  abbrev between : ℕ → List ℕ
  between q = put_at z.size.width places q before

  saved_bytes : (q : ℕ) → q < z.size.places → r < z.size.rows
      → (p : ℕ) → p < z.size.places → bytes_at z.size.width (put_at z.size.width (between q) r bs) p ≡ poke r bs (poke q before (bytes_at z.size.width places)) p
  saved_bytes q low home p l =
      put_pokes z.size.width z.size.places (between q) (between_long z st.sound places st.size r q low home) r bs (home_inside z st.sound places st.size r q low home) b p l
      ∙ poke_same r bs (bytes_at z.size.width (between q)) (poke q before (bytes_at z.size.width places)) p
      (put_pokes z.size.width z.size.places places st.size q before low (before_long z st.sound places st.size r q low home) p l)

  -- the records after, of the same size
  module _ (t : Tree) (node row : List ℕ) where
    abbrev after : Records
    after = records_of z.size t node row

    module _ (s : Sound after) (living : (u : ℕ) → lives after u ≡ lives z u) (places' : List ℕ) where
      same_tags : (u : ℕ) → alive (view after places').tags u ≡ alive (view z places).tags u
      same_tags u = view_alive after s places' u ∙ living u ∙ sym (view_alive z st.sound places u)

      low_after : (c : Cell) → Live z.size.rows (view z places).tags c → (view after places').place c < z.size.places
      low_after c l = view_low after s places' c (same_tags c.0 ∙ l.0, l.1)

    -- to a free place
    pub moved_alike : (tag q : ℕ) → q < z.size.places → Moved z after tag r q
        → Alike z.size.rows (view after (put_at z.size.width places q bs)) (moved (view z places) (tag, r) bs q)
    unfolding view
    moved_alike tag q low m = record {
      tags = same_tags m.sound m.living (put_at z.size.width places q bs);
      place = to;
      content = λ c l. put_pokes z.size.width z.size.places places st.size q bs low b (tag_place after c.0 c.1) (low_after m.sound m.living places c l)
          ∙ ap (poke q bs (bytes_at z.size.width places)) (to c l);
    }
      where
        old : Cell → ℕ
        old c = tag_place z c.0 c.1

        to : (c : Cell) → Live z.size.rows (view z places).tags c → tag_place after c.0 c.1 ≡ put (tag, r) q old c
        to c l = by_cases (same_cell c (tag, r))
            (λ e. rw (put_at_lem (tag, r) q old e) (rw e m.here))
            (λ e. rw (put_off (tag, r) q old e) (m.elsewhere c.0 c.1 (was_living c l) (λ x y. e (λ i. (x i, y i)))))

    -- over the origin's bytes
    pub saved_alike : (q : ℕ) → q < z.size.places → r < z.size.rows → Saved z after r q
        → Alike z.size.rows (view after (put_at z.size.width (put_at z.size.width places q (bytes_at z.size.width places r)) r bs)) (saved (view z places) r bs q)
    unfolding view
    saved_alike q low home m = record {
      tags = same_tags m.sound m.living (put_at z.size.width (between q) r bs);
      place = to;
      content = λ c l.
          saved_bytes q low home (tag_place after c.0 c.1) (low_after m.sound m.living places c l)
          ∙ ap (poke r bs (poke q before (bytes_at z.size.width places))) (to c l);
    }
      where
        old : Cell → ℕ
        old c = tag_place z c.0 c.1

        -- what is read from the origin's place of row r is row r
        row_r : (c : Cell) → Live z.size.rows (view z places).tags c → old c ≡ r → c.1 ≡ r
        row_r c l e = view_rows z st.sound places c (0, r) l (alive_origin (view z places).tags, home) (e ∙ sym (view_home z st.sound places r))

        to : (c : Cell) → Live z.size.rows (view z places).tags c → tag_place after c.0 c.1 ≡ divert r q old c
        to (u, k) l = by_cases (ℕ_discrete u 0)
            (λ e. rw e (rw (divert_origin r q old k) (m.elsewhere 0 k (rw e at (was_living (u, k) l)) (λ d x y. d refl))))
            (λ e. rw (divert_renames r q old (u, k) (λ x. e)) (by_cases (ℕ_discrete (old (u, k)) r)
            (λ x. let y = row_r (u, k) l x in rw (poke_at r q (λ v. v) x, y) (m.there u (was_living (u, k) l) e (rw y at x)))
            (λ x. rw (poke_off r q (λ v. v) x) (m.elsewhere u k (was_living (u, k) l) (λ d y n. x n)))))
