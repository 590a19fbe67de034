-- The reference model, document 01's shelf (SPEC 6): a full copy of every living version, with a mark for each of its rows.
-- It computes, and it knows nothing of trees, tables or places. Assumes nothing.
use Rattle.std.specs.Prelude.{not, ◌&&◌, List, [], ◌∷◌, ℕ, ◌*◌, eqb, leb, length, replicate}
use Rattle.std.proofs.Math.Option.{Option}
use Rattle.measures.specs.declared.Size.{Size}
use Rattle.measures.specs.Measures.{rows_with}
use Rattle.copies.specs.Copies.{Cell, Copies, alive, snapshots_alive, shared, sharers, places_used, without, fresh, copied, saved}
use Rattle.basics.specs.Equal.{equal}
use Rattle.model.specs.Call.{Single, snapshot, read, write, delete, count, Call, one, border}
use Rattle.answers.specs.declared.Refusal.{Refusal}
use Rattle.answers.specs.declared.Refusal.TheVariants.{BadLength, BadRow, ZeroTag, OriginTag, UnknownTag, TagAlive, SnapshotsFull, PlacesFull, TooManyRows}
use Rattle.answers.specs.Answers.{Answer, done, row, counts, refused_of}
use Rattle.answers.specs.Tests.{Tests, refusal, unless}
use Rattle.answers.specs.InOrder.{Ended, stopped, in_order, ended_with}

pub record Model : Type 0 where
  -- the tags that live besides the origin's
  pub snapshots : List ℕ
  -- the bytes of every row of every living version, with their marks
  pub rows : Copies (List ℕ)

-- The tests of each call, in the order of SPEC 7.1

module _ (z : Size) (tags : List ℕ) (mark : Cell → ℕ) (bytes : Cell → List ℕ) where
  unfoldable pub tests : Single → Tests
  tests (snapshot s t) =
      (eqb t 0, ZeroTag) ∷ (not (alive tags s), UnknownTag) ∷ (alive tags t, TagAlive) ∷ (leb 64 (snapshots_alive tags), SnapshotsFull) ∷ []
  tests (read t r) = (leb z.rows r, BadRow) ∷ (not (alive tags t), UnknownTag) ∷ []
  tests (write t r bs) =
      (not (eqb (length bs) z.width), BadLength) ∷ (leb z.rows r, BadRow) ∷ (not (alive tags t), UnknownTag)
      ∷ (shared tags mark t r && leb z.places (places_used z.rows tags mark) && not (equal bs (bytes (t, r))), PlacesFull) ∷ []
  tests (delete t) = (eqb t 0, OriginTag) ∷ (not (alive tags t), UnknownTag) ∷ []
  tests count = []

  -- the answer of a call that is accepted
  unfoldable pub accepted : Single → Answer
  accepted (snapshot s t) = done
  accepted (read t r) = row (bytes (t, r)) (sharers tags mark t r)
  accepted (write t r bs) = done
  accepted (delete t) = done
  accepted count = counts (places_used z.rows tags mark) (snapshots_alive tags)

-- how many numbers a call gives beside its own
abbrev pub gives : Call → ℕ
gives (one (snapshot s t)) = 0
gives (one (read t r)) = 1
gives (one (write t r bs)) = 0
gives (one (delete t)) = 0
gives (one count) = 2
gives (border t rs bs) = 1

-- What an accepted call does

unfoldable pub effect : Model → Single → Model
effect m (snapshot s t) = record { snapshots = t ∷ m.snapshots; rows = copied s t m.rows }
effect m (read t r) = m
effect m (write t r bs) = record { snapshots = m.snapshots; rows = saved equal (t, r) bs m.rows }
effect m (delete t) = record { snapshots = without t m.snapshots; rows = m.rows }
effect m count = m

module _ (z : Size) where
  -- the origin alone, its bytes zero, with L different marks
  unfoldable pub opened : Model
  opened = record { snapshots = []; rows = fresh z.rows (replicate z.width 0) }

  unfoldable pub verdict : Model → Single → Option Refusal
  verdict m c = refusal (tests z m.snapshots m.rows.mark m.rows.content c)

  -- one thing done: its answer, and the model after it; a refusal changes nothing
  unfoldable pub answer : Model → Single → Answer
  answer m c = unless (verdict m c) (refused_of (gives (one c))) (accepted z m.snapshots m.rows.mark m.rows.content c)

  unfoldable pub after : Model → Single → Model
  after m c = unless (verdict m c) (λ r. m) (effect m c)

  -- a border: its own tests, then single writes in the order of its rows, ending before the first that is refused
  unfoldable pub border_tests : List ℕ → ℕ → List ℕ → List ℕ → Tests
  border_tests tags t rs bs = (leb 65 (length rs), TooManyRows) ∷ (not (eqb (length bs) (length rs * z.width)), BadLength) ∷ (not (alive tags t), UnknownTag) ∷ []

  unfoldable pub bordered : Model → ℕ → List ℕ → List ℕ → Ended Model
  bordered m t rs bs = unless (refusal (border_tests m.snapshots t rs bs)) (stopped m)
      (in_order (λ n x. verdict n (write t x.0 x.1)) (λ n x. effect n (write t x.0 x.1)) m (rows_with z.width rs bs))

  -- any call
  unfoldable pub reply : Model → Call → Answer
  reply m (one c) = answer m c
  reply m (border t rs bs) = ended_with (bordered m t rs bs)

  unfoldable pub next : Model → Call → Model
  next m (one c) = after m c
  next m (border t rs bs) = (bordered m t rs bs).left

  -- any list of calls
  unfoldable pub answers : Model → List Call → List Answer
  answers m [] = []
  answers m (c ∷ cs) = reply m c ∷ answers (next m c) cs

  unfoldable pub final : Model → List Call → Model
  final m [] = m
  final m (c ∷ cs) = final (next m c) cs
