-- What follows from the reference model: what a read tells, when a write and a snapshot are accepted, that a write of the bytes that are there changes nothing, what
-- a delete leaves alone, that 20 is never answered, and that a version lives on and reads as it was left. Stores.antt says the same of stores. Assumes nothing.
use Rattle.std.specs.Prelude.{◌≡◌, ◌≢◌, ◌↔◌, Bool, true, false, ◌&&◌, cond, List, [], ◌∷◌, ℕ, ◌*◌, ◌≤◌, ◌<◌, eqb, length}
use Rattle.std.proofs.Math.Path.{refl}
use Rattle.std.proofs.Common.{sym, ◌∙◌, ap, arith}
use Rattle.std.proofs.Math.Bool.{not}
use Rattle.std.proofs.lemmas.Bool.{false≢true}
use Rattle.std.proofs.Math.Option.{Option, none, some}
use Rattle.std.proofs.Math.Dec.{leb}
use borrow.Author.Tests.{eq-eqb, ne_eqb, eqb-false, le-leb, lt-leb, leb-true, leb-false, not-true, not-false}
use Rattle.basics.specs.Decide.{and_yes, both}
use Rattle.basics.specs.Equal.{equal, equal_refl, equal_false, equal_not}
use Rattle.measures.specs.declared.Size.{Size}
use Rattle.measures.specs.Measures.{rows_with}
use Rattle.measures.specs.Rows.{rows_long}
use Rattle.model.specs.Call.{Single, snapshot, read, write, delete, count, Call, one, border}
use Rattle.answers.specs.declared.Refusal.{Refusal}
use Rattle.answers.specs.declared.Refusal.TheVariants.{BadLength, BadRow, UnknownTag, PlacesFull, TooManyRows}
use Rattle.answers.specs.Answers.{number, Answer, done, row, refused_of, refused}
use Rattle.copies.specs.Copies.{Cell, alive, snapshots_alive, shared, sharers, places_used, adopt, renewed}
use Rattle.model.specs.Model.{Model, tests, accepted, effect, verdict, answer, after, border_tests, bordered, reply, next, final}
use Rattle.answers.specs.Tests.{Tests, or_else, refusal, unless, verdict_number}
use Rattle.answers.proofs.Laws.{refusal_next, refusal_none, number_some, verdict_none}
use Rattle.answers.specs.InOrder.{stopped, in_order, ended_with}
use Rattle.answers.specs.InOrderLaws.{order_refusal, order_keeps, order_all}
use Rattle.copies.specs.Living.{alive_cons, alive_stays}
use Rattle.copies.specs.Counting.{sharers_some, sharers_shared}
use Rattle.maps.specs.Updates.{put_off}
use Rattle.agreement.specs.Verdicts.{none_passed}

-- an answer of 0 is no refusal
not_refused : (v : Option Refusal) (a : Answer) → (unless v refused a).number ≡ 0 → v ≡ none
not_refused none a e = refl
not_refused (some r) a e = absurd (number_some r e)

-- the last test of a write alone
full_iff : (b : Bool) → (unless (refusal ((b, PlacesFull) ∷ [])) refused done).number ≡ 24 ↔ b ≡ true
unfolding refusal
full_iff true = (λ e. refl, λ e. refl)
full_iff false = (λ e. absurd (omega arith), λ e. absurd (false≢true e))

full_not : (b : Bool) → (b ≡ true → ⊥) → (unless (refusal ((b, PlacesFull) ∷ [])) refused done).number ≡ 0
unfolding refusal
full_not true h = absurd (h refl)
full_not false h = refl

-- a last test that does not hold refuses nothing
never_full : (a b c d : Bool)
    → (unless (refusal ((a, BadLength) ∷ (b, BadRow) ∷ (c, UnknownTag) ∷ (d && false, PlacesFull) ∷ [])) refused done).number ≢ 24
unfolding refusal
never_full true b c d = omega arith
never_full false true c d = omega arith
never_full false false true d = omega arith
never_full false false false true = omega arith
never_full false false false false = omega arith

module _ (z : Size) (m : Model) where
  -- a write wants a place: its row is shared, every place is in use, and its bytes are not those that the version reads there
  abbrev Wants : ℕ → ℕ → List ℕ → Type 0
  Wants t r bs = (shared m.snapshots m.rows.mark t r ≡ true) × (z.places ≤ places_used z.rows m.snapshots m.rows.mark) × (bs ≢ m.rows.content (t, r))

  -- the test for it
  abbrev wants : ℕ → ℕ → List ℕ → Bool
  wants t r bs = shared m.snapshots m.rows.mark t r && leb z.places (places_used z.rows m.snapshots m.rows.mark) && not (equal bs (m.rows.content (t, r)))

  wants_iff : (t r : ℕ) (bs : List ℕ) → wants t r bs ≡ true ↔ Wants t r bs
  wants_iff t r bs = (
    λ e.
        let full = leb z.places (places_used z.rows m.snapshots m.rows.mark) in
        let (k, d) = both (shared m.snapshots m.rows.mark t r && full) (not (equal bs (m.rows.content (t, r)))) e in
        let (x, y) = both (shared m.snapshots m.rows.mark t r) full k in
        (x, leb-true _ _ y, equal_false _ _ (not-true _ d)),
    λ h. and_yes (and_yes h.0 (le-leb _ _ h.1)) (ap not (equal_not _ _ h.2)),
  )

  -- a write that passes the tests before it has that one left
  write_left_lem : (t r : ℕ) (bs : List ℕ) → length bs ≡ z.width → r < z.rows → alive m.snapshots t ≡ true → verdict z m (write t r bs) ≡ refusal ((wants t r bs, PlacesFull) ∷ [])
  unfolding verdict tests
  write_left_lem t r bs l k a =
      refusal_next _ _ (ap not (eq-eqb (length bs) z.width l)) ∙ refusal_next _ _ (lt-leb z.rows r k) ∙ refusal_next _ _ (ap not a)

  -- of the writes that reach the last test, 24 refuses exactly those whose row is shared while no place is left, and whose bytes are others
  pub write_full : (t r : ℕ) (bs : List ℕ) → length bs ≡ z.width → r < z.rows → alive m.snapshots t ≡ true → ((answer z m (write t r bs)).number ≡ 24) ↔ Wants t r bs
  unfolding answer accepted
  write_full t r bs l k a = rw (write_left_lem t r bs l k a)
      (λ e. (wants_iff t r bs).0 ((full_iff (wants t r bs)).0 e), λ h. (full_iff (wants t r bs)).1 ((wants_iff t r bs).1 h))

  -- and otherwise it is accepted
  pub write_accepted : (t r : ℕ) (bs : List ℕ) → length bs ≡ z.width → r < z.rows → alive m.snapshots t ≡ true → (Wants t r bs → ⊥) → (answer z m (write t r bs)).number ≡ 0
  unfolding answer accepted
  write_accepted t r bs l k a h = rw (write_left_lem t r bs l k a) (full_not (wants t r bs) (λ e. h ((wants_iff t r bs).0 e)))

  -- a write of the bytes that are there leaves everything as it was
  pub write_untouched : (t r : ℕ) → after z m (write t r (m.rows.content (t, r))) ≡ m
  unfolding after effect
  write_untouched t r = rw (equal_refl (m.rows.content (t, r))) (go (verdict z m (write t r (m.rows.content (t, r)))))
    where
      go : (v : Option Refusal) → unless v (λ x. m) m ≡ m
      go none = refl
      go (some x) = refl

  -- and is never refused for want of a place
  pub untouched_never_full : (t r : ℕ) → (answer z m (write t r (m.rows.content (t, r)))).number ≢ 24
  unfolding answer verdict tests accepted
  untouched_never_full t r =
      rw (equal_refl (m.rows.content (t, r))) (never_full _ _ _ (shared m.snapshots m.rows.mark t r && leb z.places (places_used z.rows m.snapshots m.rows.mark)))

  -- a read of a living version's row is accepted; its number counts that version, and is above 1 exactly if the row is shared
  pub read_tells : (t r : ℕ) → r < z.rows → alive m.snapshots t ≡ true
      → (n : ℕ) × (answer z m (read t r) ≡ row (m.rows.content (t, r)) n) × (0 < n) × ((1 < n) ↔ (shared m.snapshots m.rows.mark t r ≡ true))
  unfolding answer verdict tests accepted
  read_tells t r l a =
      let v : verdict z m (read t r) ≡ none = refusal_next _ _ (lt-leb z.rows r l) ∙ refusal_next _ _ (ap not a) ∙ refusal_none in
      (sharers m.snapshots m.rows.mark t r, rw v, sharers_some m.snapshots m.rows.mark t r a, sharers_shared m.snapshots m.rows.mark t r a)

  -- what a snapshot that no test refuses has passed, and back
  snapshot_none : (s t : ℕ) → t ≢ 0 → alive m.snapshots s ≡ true → alive m.snapshots t ≡ false → snapshots_alive m.snapshots < 64 → verdict z m (snapshot s t) ≡ none
  unfolding verdict tests
  snapshot_none s t o a b n =
      refusal_next _ _ (ne_eqb t 0 o) ∙ refusal_next _ _ (ap not a) ∙ refusal_next _ _ b ∙ refusal_next _ _ (lt-leb 64 (snapshots_alive m.snapshots) n) ∙ refusal_none

  snapshot_of : (s t : ℕ) → verdict z m (snapshot s t) ≡ none → (t ≢ 0) × (alive m.snapshots s ≡ true) × (alive m.snapshots t ≡ false) × (snapshots_alive m.snapshots < 64)
  unfolding verdict tests
  snapshot_of s t e =
      let p = none_passed (tests z m.snapshots m.rows.mark m.rows.content (snapshot s t)) e in
      (eqb-false t 0 p.0, not-false _ p.1.0, p.1.1.0, leb-false _ _ p.1.1.1.0)

  -- a snapshot is accepted exactly if its tag is not 0 and not alive, its source lives, and fewer than 64 snapshots are alive
  pub snapshot_accepted : (s t : ℕ) → ((answer z m (snapshot s t)).number ≡ 0) ↔ ((t ≢ 0) × (alive m.snapshots s ≡ true) × (alive m.snapshots t ≡ false) × (snapshots_alive m.snapshots < 64))
  unfolding answer accepted
  snapshot_accepted s t = (
    λ e. snapshot_of s t (not_refused (verdict z m (snapshot s t)) done e),
    λ h. rw (snapshot_none s t h.0 h.1 h.2 h.3),
  )

  -- a delete changes no other version's rows
  pub delete_others : (t u r : ℕ) → u ≢ t → ((after z m (delete t)).rows.content (u, r) ≡ m.rows.content (u, r)) × (alive (after z m (delete t)).snapshots u ≡ alive m.snapshots u)
  unfolding after effect
  delete_others t u r h = go (verdict z m (delete t))
    where
      go : (v : Option Refusal) → ((unless v (λ x. m) (effect m (delete t))).rows.content (u, r) ≡ m.rows.content (u, r)) × (alive (unless v (λ x. m) (effect m (delete t))).snapshots u ≡ alive m.snapshots u)
      go none = (refl, alive_stays m.snapshots t u h)
      go (some x) = (refl, refl)

-- tests whose refusals have other numbers than 20, and the answer after them
abbrev Other : Tests → Type 0
Other [] = Unit {0}
Other (t ∷ ts) = (number t.1 ≢ 20) × Other ts

other : (n : ℕ) (ts : Tests) (a : Answer) → Other ts → a.number ≢ 20 → (unless (refusal ts) (refused_of n) a).number ≢ 20
unfolding refusal
other n [] a o h = h
other n (t ∷ ts) a o h = go t.0 (other n ts a o.1 h)
  where
    go : (b : Bool) → (unless (refusal ts) (refused_of n) a).number ≢ 20 → (unless (or_else b t.1 (refusal ts)) (refused_of n) a).number ≢ 20
    go true k = o.0
    go false k = k

-- 20 is never answered
not_unsound : (z : Size) (m : Model) (c : Single) → (answer z m c).number ≢ 20
unfolding answer verdict tests accepted
not_unsound z m (snapshot s t) = other 0 (tests z m.snapshots m.rows.mark m.rows.content (snapshot s t)) done (omega arith, (omega arith, (omega arith, (omega arith, tt)))) (omega arith)
not_unsound z m (read t r) = other 1 (tests z m.snapshots m.rows.mark m.rows.content (read t r)) (accepted z m.snapshots m.rows.mark m.rows.content (read t r)) (omega arith, (omega arith, tt)) (omega arith)
not_unsound z m (write t r bs) = other 0 (tests z m.snapshots m.rows.mark m.rows.content (write t r bs)) done (omega arith, (omega arith, (omega arith, (omega arith, tt)))) (omega arith)
not_unsound z m (delete t) = other 0 (tests z m.snapshots m.rows.mark m.rows.content (delete t)) done (omega arith, (omega arith, tt)) (omega arith)
not_unsound z m count = other 2 [] (accepted z m.snapshots m.rows.mark m.rows.content count) tt (omega arith)

-- nor is it the verdict of a write
write_other : (z : Size) (m : Model) (t r : ℕ) (bs : List ℕ) → verdict_number (verdict z m (write t r bs)) ≢ 20
unfolding answer accepted
write_other z m t r bs = go (verdict z m (write t r bs)) (not_unsound z m (write t r bs))
  where
    go : (v : Option Refusal) → (unless v (refused_of 0) done).number ≢ 20 → verdict_number v ≢ 20
    go none h = h
    go (some x) h = h

pub never_unsound : (z : Size) (m : Model) (c : Call) → (reply z m c).number ≢ 20
unfolding reply bordered border_tests refusal
never_unsound z m (one c) = not_unsound z m c
never_unsound z m (border t rs bs) = go (leb 65 (length rs)) (not (eqb (length bs) (length rs * z.width))) (not (alive m.snapshots t))
  where
    rows : verdict_number (in_order (λ n x. verdict z n (write t x.0 x.1)) (λ n x. effect n (write t x.0 x.1)) m (rows_with z.width rs bs)).refusal ≢ 20
    rows = order_refusal (λ n x. verdict z n (write t x.0 x.1)) (λ n x. effect n (write t x.0 x.1)) (λ v. verdict_number v ≢ 20) (omega arith) (λ n x. write_other z n t x.0 x.1) m (rows_with z.width rs bs)

    go : (a b c : Bool) → (ended_with (unless (or_else a TooManyRows (or_else b BadLength (or_else c UnknownTag none))) (stopped m)
        (in_order (λ n x. verdict z n (write t x.0 x.1)) (λ n x. effect n (write t x.0 x.1)) m (rows_with z.width rs bs)))).number ≢ 20
    go true b c = omega arith
    go false true c = omega arith
    go false false true = omega arith
    go false false false = rows

-- a border that is answered with 0 has done every row
pub border_all : (z : Size) (m : Model) (t : ℕ) (rs bs : List ℕ) → (reply z m (border t rs bs)).number ≡ 0 → (reply z m (border t rs bs)).numbers ≡ length rs ∷ []
unfolding reply bordered
border_all z m t rs bs = go (refusal (border_tests z m.snapshots t rs bs))
  where
    go : (v : Option Refusal) → (let e = unless v (stopped m) (in_order (λ n x. verdict z n (write t x.0 x.1)) (λ n x. effect n (write t x.0 x.1)) m (rows_with z.width rs bs)) in
        (ended_with e).number ≡ 0 → (ended_with e).numbers ≡ length rs ∷ [])
    go none e = ap (λ (n : ℕ). n ∷ []) (order_all (λ n x. verdict z n (write t x.0 x.1)) (λ n x. effect n (write t x.0 x.1)) m (rows_with z.width rs bs) (verdict_none _ e) ∙ rows_long z.width rs bs)
    go (some r) e = absurd (number_some r e)

-- a call that neither writes a version, deletes it nor takes its tag
abbrev pub Spares : ℕ → Call → Type 0
Spares u (one (snapshot s t)) = t ≢ u
Spares u (one (read t r)) = Unit {0}
Spares u (one (write t r bs)) = t ≢ u
Spares u (one (delete t)) = t ≢ u
Spares u (one count) = Unit {0}
Spares u (border t rs bs) = t ≢ u

-- every call of a list
abbrev pub AllSpare : ℕ → List Call → Type 0
AllSpare u [] = Unit {0}
AllSpare u (c ∷ cs) = Spares u c × AllSpare u cs

-- what such a call does, and the model after it, have the version's rows as they were
effect_spares : (m : Model) (u r : ℕ) (c : Single) → Spares u (one c) → (effect m c).rows.content (u, r) ≡ m.rows.content (u, r)
unfolding effect adopt
effect_spares m u r (snapshot s t) h = rw (ne_eqb u t (λ e. h (sym e)))
effect_spares m u r (read t k) h = refl
effect_spares m u r (write t k bs) h = go (equal bs (m.rows.content (t, k)))
  where
    go : (b : Bool) → (cond b m.rows (renewed (t, k) bs m.rows)).content (u, r) ≡ m.rows.content (u, r)
    go true = refl
    go false = put_off (t, k) bs m.rows.content (λ e. h (sym (ap (λ (c : Cell). c.0) e)))
effect_spares m u r (delete t) h = refl
effect_spares m u r count h = refl

after_spares : (z : Size) (m : Model) (u r : ℕ) (c : Single) → Spares u (one c) → (after z m c).rows.content (u, r) ≡ m.rows.content (u, r)
unfolding after
after_spares z m u r c h = go (verdict z m c)
  where
    go : (v : Option Refusal) → (unless v (λ x. m) (effect m c)).rows.content (u, r) ≡ m.rows.content (u, r)
    go none = effect_spares m u r c h
    go (some x) = refl

-- and it lives as before
effect_lives : (m : Model) (u : ℕ) (c : Single) → Spares u (one c) → alive (effect m c).snapshots u ≡ alive m.snapshots u
unfolding effect
effect_lives m u (snapshot s t) h = alive_cons m.snapshots t u ∙ rw (ne_eqb u t (λ e. h (sym e)))
effect_lives m u (read t k) h = refl
effect_lives m u (write t k bs) h = refl
effect_lives m u (delete t) h = alive_stays m.snapshots t u (λ e. h (sym e))
effect_lives m u count h = refl

after_lives : (z : Size) (m : Model) (u : ℕ) (c : Single) → Spares u (one c) → alive (after z m c).snapshots u ≡ alive m.snapshots u
unfolding after
after_lives z m u c h = go (verdict z m c)
  where
    go : (v : Option Refusal) → alive (unless v (λ x. m) (effect m c)).snapshots u ≡ alive m.snapshots u
    go none = effect_lives m u c h
    go (some x) = refl

-- of a border, row after row: what every write of another version keeps is kept
border_keeps : (z : Size) (m : Model) (u t : ℕ) (rs bs : List ℕ) (Q : Model → Type 0) → ((n : Model) (r : ℕ) (b : List ℕ) → Q n → Q (effect n (write t r b))) → Q m → Q (bordered z m t rs bs).left
unfolding bordered
border_keeps z m u t rs bs Q f q = go (refusal (border_tests z m.snapshots t rs bs))
  where
    go : (v : Option Refusal) → Q (unless v (stopped m) (in_order (λ n x. verdict z n (write t x.0 x.1)) (λ n x. effect n (write t x.0 x.1)) m (rows_with z.width rs bs))).left
    go none = order_keeps (λ n x. verdict z n (write t x.0 x.1)) (λ n x. effect n (write t x.0 x.1)) Q (λ n x k. f n x.0 x.1 k) m (rows_with z.width rs bs) q
    go (some r) = q

-- any call that spares a version
next_spares : (z : Size) (m : Model) (u r : ℕ) (c : Call) → Spares u c → (next z m c).rows.content (u, r) ≡ m.rows.content (u, r)
unfolding next
next_spares z m u r (one c) h = after_spares z m u r c h
next_spares z m u r (border t rs bs) h = border_keeps z m u t rs bs (λ n. n.rows.content (u, r) ≡ m.rows.content (u, r)) (λ n k b e. effect_spares n u r (write t k b) h ∙ e) refl

next_lives : (z : Size) (m : Model) (u : ℕ) (c : Call) → Spares u c → alive (next z m c).snapshots u ≡ alive m.snapshots u
unfolding next
next_lives z m u (one c) h = after_lives z m u c h
next_lives z m u (border t rs bs) h = border_keeps z m u t rs bs (λ n. alive n.snapshots u ≡ alive m.snapshots u) (λ n k b e. effect_lives n u (write t k b) h ∙ e) refl

-- a version reads as when it was last changed: calls that neither write it, delete it nor take its tag leave it alive and leave its rows
pub lives_on : (z : Size) (u : ℕ) (cs : List Call) (m : Model) → AllSpare u cs → alive (final z m cs).snapshots u ≡ alive m.snapshots u
unfolding final
lives_on z u [] m h = refl
lives_on z u (c ∷ cs) m h = lives_on z u cs (next z m c) h.1 ∙ next_lives z m u c h.0

pub reads_as_left : (z : Size) (u : ℕ) (cs : List Call) (m : Model) → AllSpare u cs → (r : ℕ) → (final z m cs).rows.content (u, r) ≡ m.rows.content (u, r)
unfolding final
reads_as_left z u [] m h r = refl
reads_as_left z u (c ∷ cs) m h r = reads_as_left z u cs (next z m c) h.1 r ∙ next_spares z m u r c h.0
