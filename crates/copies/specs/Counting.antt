-- Places in use, living snapshots and shared rows: what they depend on, and how to count and to find them. Assumes nothing.
use Rattle.std.specs.Prelude.{◌≡◌, refl, ◌≢◌, ◌↔◌, true, false, not, ◌&&◌, List}
use Rattle.std.proofs.Common.{sym, ◌∙◌}
use Rattle.std.proofs.Math.Path.{ap}
use mathlib.Core.Logic.Iff
use Rattle.std.proofs.Math.Logic.{by_cases}
use Rattle.std.proofs.Math.Bool.{Bool}
use Rattle.std.proofs.lemmas.Bool.{false≢true}
use Prim.Native.Nat.{ℕ, pred, ◌<◌}
use Rattle.std.proofs.Math.Decide.{ℕ_discrete}
use Rattle.std.proofs.Math.Dec.{eqb}
use borrow.Author.Tests.{eq-eqb, ne_eqb, eqb-true}
use Rattle.basics.specs.Count.{count}
use Rattle.basics.specs.Decide.{Decides, decides_iff, decides_true, decides_false, holds, and_yes, both, not_yes, not_of}
use Rattle.copies.specs.Copies.{Cell, only, different, living, alive, snapshots_alive, Live, cells, shared, sharers, places_used}
use Rattle.copies.specs.Members.{In, test_iff, eqb_iff, any_yes, any_some, any_same, any_members, only_in, only_same}
use Rattle.copies.specs.Different.{count_new, different_among, different_some, different_two, two_different, different_members, different_pattern}
use Rattle.copies.specs.Living.{alive_origin, alive_in, live_in}

-- Who lives is all that they take from a list of tags

module _ (ts us : List ℕ) (h : (t : ℕ) → alive ts t ≡ alive us t) where
  same_living : (t : ℕ) → In t (living ts) ↔ In t (living us)
  same_living t = Iff.trans (Iff.symm (alive_in ts t)) (rw (h t) (alive_in us t))

  same_cells : (n : ℕ) (c : Cell) → In c (cells n (living ts)) ↔ In c (cells n (living us))
  same_cells n c = Iff.trans (Iff.symm (live_in n ts c)) (rw (h c.0) (live_in n us c))

  pub used_tags : (n : ℕ) (f : Cell → ℕ) → places_used n ts f ≡ places_used n us f
  unfolding places_used
  used_tags n f = different_members f (cells n (living ts)) (cells n (living us)) (same_cells n)

  pub snapshots_tags : snapshots_alive ts ≡ snapshots_alive us
  unfolding snapshots_alive
  snapshots_tags = ap pred (different_members (λ t. t) (living ts) (living us) same_living)

  pub shared_tags : (f : Cell → ℕ) (t r : ℕ) → shared ts f t r ≡ shared us f t r
  unfolding shared
  shared_tags f t r = any_members _ (living ts) (living us) same_living

  pub sharers_tags : (f : Cell → ℕ) (t r : ℕ) → sharers ts f t r ≡ sharers us f t r
  unfolding sharers
  sharers_tags f t r = different_members (λ u. u) (only same (living ts)) (only same (living us)) (λ u. Iff.trans (only_in same (living ts) u)
      (Iff.trans (λ x. ((same_living u).0 x.0, x.1), λ x. ((same_living u).1 x.0, x.1)) (Iff.symm (only_in same (living us) u))))
    where
      same : ℕ → Bool
      same u = eqb (f (u, r)) (f (t, r))

-- Which living rows are equally named is all that they take from the names: marks, or places

module _ (n : ℕ) (tags : List ℕ) (f g : Cell → ℕ) (h : (a b : Cell) → Live n tags a → Live n tags b → f a ≡ f b ↔ g a ≡ g b) where
  pub used_pattern : places_used n tags f ≡ places_used n tags g
  unfolding places_used
  used_pattern = different_pattern f g (cells n (living tags)) (λ a b i j. h a b ((live_in n tags a).1 i) ((live_in n tags b).1 j))

  pub shared_pattern : (t r : ℕ) → Live n tags (t, r) → shared tags f t r ≡ shared tags g t r
  unfolding shared
  shared_pattern t r l = any_same _ _ (living tags) (λ u i. ap (◌&&◌ (not (eqb u t))) (eqb_iff (h (u, r) (t, r) ((alive_in tags u).1 i, l.1) l)))

  pub sharers_pattern : (t r : ℕ) → Live n tags (t, r) → sharers tags f t r ≡ sharers tags g t r
  unfolding sharers
  sharers_pattern t r l = ap (different (λ u. u)) (only_same _ _ (living tags) (λ u i. eqb_iff (h (u, r) (t, r) ((alive_in tags u).1 i, l.1) l)))

-- Counted below a bound

pub used_among : (n p : ℕ) (tags : List ℕ) (f : Cell → ℕ) → ((c : Cell) → Live n tags c → f c < p)
    → (b : ℕ → Bool) → ((v : ℕ) → v < p → Decides (b v) ((c : Cell) × Live n tags c × (f c ≡ v))) → places_used n tags f ≡ count b p
unfolding places_used
used_among n p tags f low b d = different_among f p (cells n (living tags)) (λ c i. low c ((live_in n tags c).1 i)) b (λ v l. decides_iff (b v)
    (λ h. (h.0, (live_in n tags h.0).0 h.1, h.2), λ h. (h.0, (live_in n tags h.0).1 h.1, h.2))
    (d v l))

-- the origin is alive, and no snapshot
pub snapshots_among : (p : ℕ) (tags : List ℕ) (b : ℕ → Bool) → ((t : ℕ) → t < p → Decides (b t) ((alive tags t ≡ true) × (t ≢ 0)))
    → ((t : ℕ) → alive tags t ≡ true → t < p) → 0 < p → snapshots_alive tags ≡ count b p
unfolding snapshots_alive
snapshots_among p tags b d low h = ap pred (versions ∙ count_new (alive tags) b 0 p h (alive_origin tags) (decides_false (d 0 h) (λ x. x.1 refl)) others)
  where
    living_decides : (v : ℕ) (x : Bool) → alive tags v ≡ x → Decides x ((t : ℕ) × In t (living tags) × (t ≡ v))
    living_decides v true e = (v, (alive_in tags v).0 e, refl)
    living_decides v false e = λ k. false≢true (sym e ∙ ap (alive tags) (sym k.2) ∙ (alive_in tags k.0).1 k.1)

    versions : different (λ t. t) (living tags) ≡ count (alive tags) p
    versions = different_among (λ t. t) p (living tags) (λ t i. low t ((alive_in tags t).1 i)) (alive tags) (λ v l. living_decides v (alive tags v) refl)

    others : (v : ℕ) → v < p → v ≢ 0 → alive tags v ≡ b v
    others v l k = test_iff (λ e. decides_true (d v l) (e, k), λ e. (holds (b v) (d v l) e).0)

-- Shared: with whom

module _ (tags : List ℕ) (f : Cell → ℕ) (t r : ℕ) where
  pub shared_yes : (u : ℕ) → alive tags u ≡ true → u ≢ t → f (u, r) ≡ f (t, r) → shared tags f t r ≡ true
  unfolding shared
  shared_yes u a k e = any_yes _ (living tags) u ((alive_in tags u).0 a) (and_yes (not_yes (ne_eqb u t k)) (eq-eqb (f (u, r)) (f (t, r)) e))

  pub shared_some : shared tags f t r ≡ true → (u : ℕ) × (alive tags u ≡ true) × (u ≢ t) × (f (u, r) ≡ f (t, r))
  unfolding shared
  shared_some e =
      let (u, i, x) = any_some _ (living tags) e in
      let (k, y) = both (not (eqb u t)) (eqb (f (u, r)) (f (t, r))) x in
      (u, (alive_in tags u).1 i, not_of u t k, eqb-true (f (u, r)) (f (t, r)) y)

  pub shared_none : shared tags f t r ≡ false → (u : ℕ) → alive tags u ≡ true → u ≢ t → f (u, r) ≢ f (t, r)
  shared_none e u a k = λ x. false≢true (sym e ∙ shared_yes u a k x)

  -- the number: t is counted, and it is above 1 exactly if the row is shared

  mine : alive tags t ≡ true → In t (only (λ u. eqb (f (u, r)) (f (t, r))) (living tags))
  mine a = (only_in (λ u. eqb (f (u, r)) (f (t, r))) (living tags) t).1 ((alive_in tags t).0 a, eq-eqb (f (t, r)) (f (t, r)) refl)

  pub sharers_some : alive tags t ≡ true → 0 < sharers tags f t r
  unfolding sharers
  sharers_some a = different_some (λ u. u) (only (λ u. eqb (f (u, r)) (f (t, r))) (living tags)) t (mine a)

  pub sharers_shared : alive tags t ≡ true → (1 < sharers tags f t r) ↔ (shared tags f t r ≡ true)
  unfolding sharers
  sharers_shared a = (to, from)
    where
      same : ℕ → Bool
      same u = eqb (f (u, r)) (f (t, r))

      other : (u : ℕ) → In u (only same (living tags)) → u ≢ t → shared tags f t r ≡ true
      other u i d = let (j, e) = (only_in same (living tags) u).0 i in shared_yes u ((alive_in tags u).1 j) d (eqb-true (f (u, r)) (f (t, r)) e)

      to : 1 < different (λ u. u) (only same (living tags)) → shared tags f t r ≡ true
      to l =
          let (u, w, i, j, d) = two_different (λ u. u) (only same (living tags)) l in
          by_cases (ℕ_discrete u t) (λ e. other w j (λ x. d (e ∙ sym x))) (λ e. other u i e)

      from : shared tags f t r ≡ true → 1 < different (λ u. u) (only same (living tags))
      from e =
          let (u, l, d, x) = shared_some e in
          different_two (λ u. u) (only same (living tags)) u t ((only_in same (living tags) u).1 ((alive_in tags u).0 l, eq-eqb (f (u, r)) (f (t, r)) x)) (mine a) d
