-- What an accepted call has passed; under agreement the map gives the model's verdict, counts and answer. Assumes nothing.
use Rattle.std.specs.Prelude.{◌≡◌, ◌≢◌, true, false, ◌&&◌, ℕ}
use Rattle.std.proofs.Math.Path.{refl, ap₂}
use Rattle.std.proofs.Math.Bool.{Bool, not}
use mathlib.Core.List.{List, [], ◌∷◌}
use Rattle.std.proofs.Math.Option.{none}
use Rattle.std.proofs.Common.{arith}
use Rattle.std.proofs.Math.Dec.{leb}
use borrow.Author.Tests.{eqb-false, leb-false, not-false}
use Rattle.basics.specs.Equal.{equal}
use Rattle.measures.specs.declared.Size.{Size}
use Rattle.model.specs.Call.{Single, snapshot, read, write, delete, count, one}
use Rattle.answers.specs.declared.Refusal.TheVariants.{PlacesFull}
use Rattle.answers.specs.Answers.{row, counts, refused_of}
use Rattle.model.specs.Model.{Model, tests, gives, accepted, verdict, answer}
use Rattle.answers.specs.Tests.{Tests, or_else, refusal}
use Rattle.answers.proofs.Laws.{unless_same, refusal_same}
use Rattle.copies.specs.Copies.{Cell, alive, snapshots_alive, Live}
use Rattle.copies.specs.Counting.{snapshots_tags}
use Rattle.maps.specs.Keeping.{used_same, shared_same, sharers_same}
use Rattle.agreement.specs.Agree.{RowMap, map_verdict, map_answer, Agree}

-- none of the tests holds
abbrev pub Passed : Tests → Type 0
Passed [] = Unit {0}
Passed (t ∷ ts) = (t.0 ≡ false) × Passed ts

pub none_passed : (ts : Tests) → refusal ts ≡ none → Passed ts
unfolding refusal
none_passed [] e = tt
none_passed (t ∷ ts) e = go t.0 refl e (none_passed ts)
  where
    go : (b : Bool) → t.0 ≡ b → or_else b t.1 (refusal ts) ≡ none → (refusal ts ≡ none → Passed ts) → Passed (t ∷ ts)
    go true k x f = let z : ◌≡◌ {A = ℕ} 0 1 = cc in absurd (omega arith)
    go false k x f = (k, f x)

module _ (z : Size) (tags : List ℕ) (f : Cell → ℕ) (g : Cell → List ℕ) where
  pub snapshot_passed : (s t : ℕ) → refusal (tests z tags f g (snapshot s t)) ≡ none → (t ≢ 0) × (alive tags s ≡ true)
  unfolding tests
  snapshot_passed s t e = let p = none_passed (tests z tags f g (snapshot s t)) e in (eqb-false t 0 p.0, not-false _ p.1.0)

  pub read_passed : (t r : ℕ) → refusal (tests z tags f g (read t r)) ≡ none → Live z.rows tags (t, r)
  unfolding tests
  read_passed t r e = let p = none_passed (tests z tags f g (read t r)) e in (not-false _ p.1.0, leb-false _ _ p.0)

  pub write_passed : (t r : ℕ) (bs : List ℕ) → refusal (tests z tags f g (write t r bs)) ≡ none → Live z.rows tags (t, r)
  unfolding tests
  write_passed t r bs e = let p = none_passed (tests z tags f g (write t r bs)) e in (not-false _ p.1.1.0, leb-false _ _ p.1.0)

  pub delete_passed : (t : ℕ) → refusal (tests z tags f g (delete t)) ≡ none → t ≢ 0
  unfolding tests
  delete_passed t e = eqb-false t 0 (none_passed (tests z tags f g (delete t)) e).0

module _ (z : Size) {m : RowMap} {s : Model} (a : Agree z m s) where
  living_same : (t : ℕ) → alive m.tags t ≡ alive s.snapshots t
  living_same = a.rows.living

  snapshots_same : snapshots_alive m.tags ≡ snapshots_alive s.snapshots
  snapshots_same = snapshots_tags m.tags s.snapshots living_same

  pub verdict_same : (c : Single) → map_verdict z m c ≡ verdict z s c
  unfolding map_verdict verdict tests
  verdict_same (snapshot u t) = rw (living_same u, living_same t, snapshots_same)
  verdict_same (read t r) = rw (living_same t)
  verdict_same (write t r bs) = rw (living_same t) (refusal_same _ _ _ _ (λ o. refusal_same _ _ _ _ (λ l. refusal_same _ _ _ _ (λ h.
      let l' : Live z.rows s.snapshots (t, r) = (not-false _ h, leb-false _ _ l) in
      ap₂ (λ (x : Bool × ℕ) (bytes : List ℕ). refusal ((x.0 && leb z.places x.1 && not (equal bs bytes), PlacesFull) ∷ []))
      (ap₂ (λ (x : Bool) (n : ℕ). (x, n)) (shared_same z.rows a.rows t r l') (used_same z.rows a.rows)) (a.rows.content (t, r) l')))))
  verdict_same (delete t) = rw (living_same t)
  verdict_same count = refl

  accepted_same : (c : Single) → verdict z s c ≡ none → accepted z m.tags m.place (λ d. m.content (m.place d)) c ≡ accepted z s.snapshots s.rows.mark s.rows.content c
  unfolding accepted verdict
  accepted_same (snapshot u t) e = refl
  accepted_same (read t r) e =
      let l = read_passed z s.snapshots s.rows.mark s.rows.content t r e in
      ap₂ row (a.rows.content (t, r) l) (sharers_same z.rows a.rows t r l)
  accepted_same (write t r bs) e = refl
  accepted_same (delete t) e = refl
  accepted_same count e = ap₂ counts (used_same z.rows a.rows) snapshots_same

  pub answer_same : (c : Single) → map_answer z m c ≡ answer z s c
  unfolding map_answer answer
  answer_same c = rw (verdict_same c) (unless_same (verdict z s c) (refused_of (gives (one c))) (accepted_same c))
