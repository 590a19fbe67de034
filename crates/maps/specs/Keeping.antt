-- A map goes on mirroring copies: where it begins, by what no living row shows, by a snapshot and by a delete. Assumes nothing.
use Rattle.std.specs.Prelude.{◌≡◌, refl, ◌≢◌, true, cond, List, [], ◌∷◌, ℕ, ◌<◌, eqb}
use Rattle.std.proofs.Common.{sym, ◌∙◌, ne_eqb}
use mathlib.Core.Logic.Iff
use Rattle.std.proofs.Math.Logic.{by_cases}
use Rattle.std.proofs.Math.Decide.{ℕ_discrete}
use Rattle.copies.specs.Copies.{Cell, Copies, alive, Live, shared, sharers, places_used, adopt, without, fresh, copied}
use Rattle.copies.specs.Living.{alive_origin, alive_cons, alive_source, alive_gone, alive_stays, alive_before}
use Rattle.copies.specs.Counting.{used_tags, shared_tags, sharers_tags, used_pattern, shared_pattern, sharers_pattern}
use Rattle.maps.specs.Map.{Map, first_map, joined, left, Alike, Mirrors}

module _ {A : Type 0} (n : ℕ) where
  pub first_mirrors : (v : A) → Mirrors n (first_map v) [] (fresh n v)
  first_mirrors v = record {
    living = λ t. refl;
    content = λ c l. refl;
    names = λ c d l k. Iff.rfl;
    rows = λ c d l k e. e;
    below = λ c l. l.1;
    home = λ r l. refl;
  }

  -- any map whose rows keep apart mirrors the copies that have its places for marks
  pub start_mirrors : (m : Map A) (p : ℕ) → ((c : Cell) → Live n m.tags c → m.place c < p)
      → ((a b : Cell) → Live n m.tags a → Live n m.tags b → m.place a ≡ m.place b → a.1 ≡ b.1)
      → ((r : ℕ) → r < n → m.place (0, r) ≡ r)
      → Mirrors n m m.tags (record { content = λ c. m.content (m.place c); mark = m.place; next = p })
  start_mirrors m p low rows home = record {
    living = λ t. refl;
    content = λ c l. refl;
    names = λ a b l k. Iff.rfl;
    rows = rows;
    below = low;
    home = home;
  }

module _ {A : Type 0} (n : ℕ) {m : Map A} {tags : List ℕ} {s : Copies A} (a : Mirrors n m tags s) where
  -- a living row of the copies is one of the map
  pub in_map : (c : Cell) → Live n tags c → Live n m.tags c
  in_map c l = rw (a.living c.0) l

  -- as many places as marks; a row is shared in both or in neither, and by as many
  pub used_same : places_used n m.tags m.place ≡ places_used n tags s.mark
  used_same = used_tags m.tags tags a.living n m.place ∙ used_pattern n tags m.place s.mark a.names

  pub shared_same : (t r : ℕ) → Live n tags (t, r) → shared m.tags m.place t r ≡ shared tags s.mark t r
  shared_same t r l = shared_tags m.tags tags a.living m.place t r ∙ shared_pattern n tags m.place s.mark a.names t r l

  pub sharers_same : (t r : ℕ) → Live n tags (t, r) → sharers m.tags m.place t r ≡ sharers tags s.mark t r
  sharers_same t r l = sharers_tags m.tags tags a.living m.place t r ∙ sharers_pattern n tags m.place s.mark a.names t r l

  pub alike_keeps : {m' : Map A} → Alike n m' m → Mirrors n m' tags s
  alike_keeps k = record {
    living = λ t. k.tags t ∙ a.living t;
    content = λ c l. k.content c (in_map c l) ∙ a.content c l;
    names = λ c d l h. rw (k.place c (in_map c l), k.place d (in_map d h)) (a.names c d l h);
    rows = λ c d l h e. a.rows c d l h (sym (k.place c (in_map c l)) ∙ e ∙ k.place d (in_map d h));
    below = a.below;
    home = λ r l. k.place (0, r) (alive_origin m.tags, l) ∙ a.home r l;
  }

  -- afterwards every row is what its source was before
  pub snapshot_keeps : (u t : ℕ) → (t ≢ 0) × (alive tags u ≡ true) → Mirrors n (joined u t m) (t ∷ tags) (copied u t s)
  unfolding adopt
  snapshot_keeps u t (t0, h) =
      let source : Cell → Cell = λ c. (cond (eqb c.0 t) u c.0, c.1) in
      let lived : (c : Cell) → Live n (t ∷ tags) c → Live n tags (source c) = λ c l. (alive_source tags u t c.0 h l.0, l.1) in
      record {
        living = λ v. rw (alive_cons m.tags t v, alive_cons tags t v, a.living v);
        content = λ c l. a.content (source c) (lived c l);
        names = λ c d l k. a.names (source c) (source d) (lived c l) (lived d k);
        rows = λ c d l k. a.rows (source c) (source d) (lived c l) (lived d k);
        below = λ c l. a.below (source c) (lived c l);
        home = λ r l. rw (ne_eqb 0 t (λ e. t0 (sym e))) (a.home r l);
      }

  pub delete_keeps : (t : ℕ) → t ≢ 0 → Mirrors n (left t m) (without t tags) s
  delete_keeps t t0 =
      let lived : (c : Cell) → Live n (without t tags) c → Live n tags c = λ c l. (alive_before tags t c.0 t0 l.0, l.1) in
      record {
        living = λ v. by_cases (ℕ_discrete v t)
            (λ e. rw (e, alive_gone m.tags t t0, alive_gone tags t t0))
            (λ e. rw (alive_stays m.tags t v e, alive_stays tags t v e) (a.living v));
        content = λ c l. a.content c (lived c l);
        names = λ c d l k. a.names c d (lived c l) (lived d k);
        rows = λ c d l k. a.rows c d (lived c l) (lived d k);
        below = λ c l. a.below c (lived c l);
        home = a.home;
      }
