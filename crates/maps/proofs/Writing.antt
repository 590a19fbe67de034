-- A map goes on mirroring copies by a write, whichever of the three ways it goes, and by a row that is saved. Assumes nothing.
use Rattle.std.specs.Prelude.{◌≡◌, refl, ◌≢◌, ◌↔◌, ◌⊎◌, Bool, true, false, cond, List, ℕ, ◌<◌}
use Rattle.std.proofs.Common.{sym, ◌∙◌, ap, inl, inr, arith}
use mathlib.Core.Logic.Iff
use Rattle.std.proofs.Math.Logic.{by_cases}
use Rattle.std.proofs.Math.Decide.{ℕ_discrete}
use Rattle.copies.specs.Copies.{Cell, Copies, Live, shared, put, renewed, saved as saved_copies}
use Rattle.copies.specs.Living.{alive_origin}
use Rattle.copies.specs.Counting.{shared_none}
use Rattle.maps.specs.Map.{Map, poke, kept, moved, divert, saved, Free, Write, in_place, to_free, saving, Save, untouched, touched, Mirrors}
use Rattle.maps.specs.Updates.{same_cell, put_at_lem, put_off, poke_at, poke_off, renamed, renamed_iff, renamed_other, divert_origin, divert_renames}
use Rattle.maps.specs.Keeping.{in_map, alike_keeps}

-- f' gives c a name of its own, and the other living rows are equally named if they are by f
record Alone (n : ℕ) (tags : List ℕ) (c : Cell) (f f' : Cell → ℕ) : Type 0 where
  alone : (d : Cell) → Live n tags d → d ≢ c → f' d ≢ f' c
  rest : (d e : Cell) → Live n tags d → Live n tags e → d ≢ c → e ≢ c → f' d ≡ f' e ↔ f d ≡ f e

module _ {n : ℕ} {tags : List ℕ} {c : Cell} where
  alone_put : (f : Cell → ℕ) (q : ℕ) → ((d : Cell) → Live n tags d → f d ≢ q) → Alone n tags c f (put c q f)
  alone_put f q free = record {
    alone = λ d l h. rw (put_off c q f h, put_at_lem c q f {d = c} refl) (free d l);
    rest = λ d e l k h i. rw (put_off c q f h, put_off c q f i) Iff.rfl;
  }

  -- rows that f' names equally are one row, or neither is c
  alone_split : {f f' : Cell → ℕ} → Alone n tags c f f' → (d e : Cell) → Live n tags d → Live n tags e → f' d ≡ f' e → (d ≡ e) ⊎ (f d ≡ f e) × (d ≢ c) × (e ≢ c)
  alone_split {f' = f'} F d e l k x = by_cases (same_cell d c)
      (λ h. by_cases (same_cell e c) (λ i. inl (h ∙ sym i)) (λ i. absurd (F.alone e k i (sym x ∙ ap f' h))))
      (λ h. by_cases (same_cell e c) (λ i. absurd (F.alone d l h (x ∙ ap f' i))) (λ i. inr ((F.rest d e l k h i).0 x, h, i)))

  alone_names : {f f' g g' : Cell → ℕ} → Alone n tags c f f' → Alone n tags c g g' → (d e : Cell) → Live n tags d → Live n tags e → (f d ≡ f e → g d ≡ g e) → f' d ≡ f' e → g' d ≡ g' e
  alone_names {f} {g' = g'} F G d e l k h x = go (alone_split F d e l k x)
    where
      go : (d ≡ e) ⊎ (f d ≡ f e) × (d ≢ c) × (e ≢ c) → g' d ≡ g' e
      go (inl i) = ap g' i
      go (inr (y, i, j)) = (G.rest d e l k i j).1 (h y)

  alone_rows : {f f' : Cell → ℕ} → Alone n tags c f f' → (d e : Cell) → Live n tags d → Live n tags e → (f d ≡ f e → d.1 ≡ e.1) → f' d ≡ f' e → d.1 ≡ e.1
  alone_rows {f} F d e l k h x = go (alone_split F d e l k x)
    where
      go : (d ≡ e) ⊎ (f d ≡ f e) × (d ≢ c) × (e ≢ c) → d.1 ≡ e.1
      go (inl i) = ap (λ (b : Cell). b.1) i
      go (inr (y, i, j)) = h y

-- what a write does to the living rows: c gets a place of its own and v, and of the others nothing is seen
record Wrote {A : Type 0} (n : ℕ) (m : Map A) (tags : List ℕ) (c : Cell) (v : A) (m' : Map A) : Type 0 where
  same : m'.tags ≡ m.tags
  mine : m'.content (m'.place c) ≡ v
  others : (d : Cell) → Live n tags d → d ≢ c → m'.content (m'.place d) ≡ m.content (m.place d)
  names : Alone n tags c m.place m'.place
  home : (r : ℕ) → r < n → m'.place (0, r) ≡ r

module _ {A : Type 0} (n : ℕ) {m : Map A} {tags : List ℕ} {s : Copies A} (a : Mirrors n m tags s) where
  wrote_keeps : (t r : ℕ) (v : A) {m' : Map A} → Wrote n m tags (t, r) v m' → Mirrors n m' tags (renewed (t, r) v s)
  wrote_keeps t r v {m'} w =
      let c : Cell = (t, r) in
      let marks : Alone n tags c s.mark (put c s.next s.mark) = alone_put s.mark s.next (λ d l. omega (arith, a.below d l)) in
      record {
        living = λ u. rw w.same (a.living u);
        content = λ d l. by_cases (same_cell d c)
            (λ e. rw (put_at_lem c v s.content e) (rw e w.mine))
            (λ e. rw (put_off c v s.content e) (w.others d l e ∙ a.content d l));
        names = λ d e l k. (alone_names w.names marks d e l k (a.names d e l k).0, alone_names marks w.names d e l k (a.names d e l k).1);
        rows = λ d e l k. alone_rows w.names d e l k (a.rows d e l k);
        below = λ d l. by_cases (same_cell d c)
            (λ e. rw (put_at_lem c s.next s.mark e) (omega arith))
            (λ e. rw (put_off c s.next s.mark e) (omega (arith, a.below d l)));
        home = w.home;
      }

  -- The three ways

  kept_wrote : (t r : ℕ) (v : A) → Live n tags (t, r) → shared m.tags m.place t r ≡ false → Wrote n m tags (t, r) v (kept m (t, r) v)
  kept_wrote t r v l e = record {
    same = refl;
    mine = poke_at (m.place (t, r)) v m.content refl;
    others = λ d k h. poke_off (m.place (t, r)) v m.content (unshared d k h);
    names = record { alone = unshared; rest = λ d e k i x y. Iff.rfl };
    home = a.home;
  }
    where
      unshared : (d : Cell) → Live n tags d → d ≢ (t, r) → m.place d ≢ m.place (t, r)
      unshared d k h = λ x.
          let row : d.1 ≡ r = a.rows d (t, r) k l x in
          shared_none m.tags m.place t r e d.0 (in_map n a d k).0 (λ y. h (λ i. (y i, row i))) (ap (λ (j : ℕ). m.place (d.0, j)) (sym row) ∙ x)

  moved_wrote : (t r : ℕ) (v : A) (q : ℕ) → t ≢ 0 → Free n m q → Wrote n m tags (t, r) v (moved m (t, r) v q)
  moved_wrote t r v q t0 free = record {
    same = refl;
    mine = poke_at q v m.content (put_at_lem (t, r) q m.place refl);
    others = λ d l h. rw (put_off (t, r) q m.place h) (poke_off q v m.content (free d (in_map n a d l)));
    names = alone_put m.place q (λ d l. free d (in_map n a d l));
    home = λ k l. put_off (t, r) q m.place (λ e. t0 (sym (ap (λ (d : Cell). d.0) e))) ∙ a.home k l;
  }

  -- the others that were read from r are read from q, to which what lay in r was saved
  saved_wrote : (r : ℕ) (v : A) (q : ℕ) → r < n → Free n m q → Wrote n m tags (0, r) v (saved m r v q)
  saved_wrote r v q l free = record {
    same = refl;
    mine = poke_at r v (poke q (m.content r) m.content) (origin r l);
    others = λ d k h. rw (other d k h) (poke_off r v (poke q (m.content r) m.content) (renamed_other r q (m.place d) apart) ∙ saved_content d (free d (in_map n a d k)));
    names = record {
      alone = λ d k h. rw (origin r l, other d k h) (renamed_other r q (m.place d) apart);
      rest = λ d e k i x y. rw (other d k x, other e i y) (renamed_iff r q (m.place d) (m.place e) (free d (in_map n a d k)) (free e (in_map n a e i)));
    };
    home = origin;
  }
    where
      origin : (k : ℕ) → k < n → divert r q m.place (0, k) ≡ k
      origin k h = divert_origin r q m.place k ∙ a.home k h

      apart : q ≢ r
      apart = λ e. free (0, r) (alive_origin m.tags, l) (a.home r l ∙ sym e)

      other : (d : Cell) → Live n tags d → d ≢ (0, r) → divert r q m.place d ≡ renamed r q (m.place d)
      other d k h = divert_renames r q m.place d (λ e x.
          let row : d.1 ≡ r = a.rows d (0, r) k (alive_origin tags, l) (e ∙ sym (a.home r l)) in
          h (λ i. (x i, row i)))

      saved_content : (d : Cell) → m.place d ≢ q → poke q (m.content r) m.content (renamed r q (m.place d)) ≡ m.content (m.place d)
      saved_content d h = by_cases (ℕ_discrete (m.place d) r)
          (λ e. poke_at q (m.content r) m.content (poke_at r q (λ v. v) e) ∙ ap m.content (sym e))
          (λ e. rw (poke_off r q (λ v. v) e) (poke_off q (m.content r) m.content h))

  pub write_keeps : (t r : ℕ) (v : A) {m' : Map A} → Live n tags (t, r) → Write n m t r v m' → Mirrors n m' tags (renewed (t, r) v s)
  write_keeps t r v l (in_place e k) = alike_keeps n (wrote_keeps t r v (kept_wrote t r v l e)) k
  write_keeps t r v l (to_free e h q free k) = alike_keeps n (wrote_keeps t r v (moved_wrote t r v q h free)) k
  write_keeps t r v l (saving e h q free k) = alike_keeps n (rw h (wrote_keeps 0 r v (saved_wrote r v q l.1 free))) k

  -- by a test of what is the same
  module _ (same : A → A → Bool) (yes : (x : A) → same x x ≡ true) (no : (x y : A) → same x y ≡ true → x ≡ y) where
    pub save_keeps : (t r : ℕ) (v : A) {m' : Map A} → Live n tags (t, r) → Save n m t r v m' → Mirrors n m' tags (saved_copies same (t, r) v s)
    save_keeps t r v l (untouched e k) =
        let h : same v (s.content (t, r)) ≡ true = rw (sym (a.content (t, r) l) ∙ e) (yes v) in
        rw h (alike_keeps n a k)
    save_keeps t r v {m'} l (touched d w) = go (same v (s.content (t, r))) refl
      where
        go : (b : Bool) → same v (s.content (t, r)) ≡ b → Mirrors n m' tags (cond b s (renewed (t, r) v s))
        go true h = absurd (d (a.content (t, r) l ∙ sym (no v (s.content (t, r)) h)))
        go false h = write_keeps t r v l w
