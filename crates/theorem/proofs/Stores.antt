-- What follows of every store, after any list of calls on it: what Consequences says of the model, in the store's own terms. Assumes nothing.
use Rattle.std.specs.Prelude.{◌≡◌, ◌≢◌, ◌↔◌, true, false, ℕ, ◌≤◌, ◌<◌, length}
use Rattle.std.proofs.Math.Path.{sym, ap}
use Rattle.std.proofs.Common.{◌∙◌}
use mathlib.Core.List.{List, [], ◌∷◌}
use Rattle.measures.specs.declared.Size.{Size}
use Rattle.records.specs.Records.{Records, table, lives, tag_place}
use Rattle.trees.specs.Trees.{snapshots, used}
use Rattle.answers.specs.Answers.{Answer, row}
use Rattle.model.specs.Call.{snapshot, read, write, delete, Call, one, border}
use Rattle.model.specs.Model.{Model, reply, next, answers, final}
use Rattle.copies.specs.Copies.{alive, snapshots_alive, shared}
use Rattle.copies.specs.Counting.{shared_yes, shared_some}
use Rattle.edits.specs.Edits.{Whole}
use Rattle.reads.specs.Reads.{row_of_tag}
use Rattle.view.specs.View.{view, Store, started}
use Rattle.view.proofs.Viewed.{view_snapshots}
use Rattle.theorem.specs.Trace.{State, CallEnds, Trace, over, then, Equals}
use Rattle.theorem.proofs.Theorem.{theorem_sound}
use Rattle.theorem.proofs.Leaving.{call_leaves, leaves_untouched, leaves_none}
use Rattle.theorem.specs.Consequences as model
use Rattle.theorem.specs.Borders as borders
use Rattle.theorem.specs.Consequences.{AllSpare}

-- another living version reads the row from the same place
abbrev pub Shares : Records → ℕ → ℕ → Type 0
Shares z tag r = (u : ℕ) × (lives z u ≡ true) × (u ≢ tag) × (tag_place z u r ≡ tag_place z tag r)

-- all P places are in use
abbrev pub Full : Records → Type 0
Full z = z.size.places ≤ used (table z)

-- 20 is not among the numbers
abbrev pub NoneUnsound : List Answer → Type 0
NoneUnsound [] = Unit {0}
NoneUnsound (h ∷ hs) = (h.number ≢ 20) × NoneUnsound hs

none_unsound : (z : Size) (m : Model) (cs : List Call) → NoneUnsound (answers z m cs)
unfolding answers
none_unsound z m [] = tt
none_unsound z m (c ∷ cs) = (model.never_unsound z m c, none_unsound z (next z m c) cs)

-- a store and the model that starts with it
module _ (s : State) (st : Store s.records s.places) (w : Whole s.records.tree) where
  abbrev its : Model
  its = started s.records s.places

  equals : Equals s.records.size s its
  unfolding final
  equals = (theorem_sound s.records s.places st w over).1

  shares_iff : (tag r : ℕ) → lives s.records tag ≡ true → r < s.records.size.rows → Shares s.records tag r ↔ (shared its.snapshots its.rows.mark tag r ≡ true)
  shares_iff tag r a l =
      let e = equals in
      let b = sym (e.living tag) ∙ a in (
        λ x. let c = sym (e.living x.0) ∙ x.1 in shared_yes its.snapshots its.rows.mark tag r x.0 c x.2 ((e.sharing x.0 tag r c b l).0 x.3),
        λ h. let (u, c, d, f) = shared_some its.snapshots its.rows.mark tag r h in (u, e.living u ∙ c, d, (e.sharing u tag r c b l).1 f),
      )

  alive_snapshots : snapshots_alive its.snapshots ≡ snapshots s.records.tree
  unfolding started view
  alive_snapshots = view_snapshots s.records st.sound s.places

  -- one call: what it hands out is the model's
  answered : {c : Call} {h : Answer} {s' : State} → CallEnds s.records s.places c h s' → h ≡ reply s.records.size its c
  unfolding answers
  answered {c} {h} k = let e = (theorem_sound s.records s.places st w (then k over)).0 in cc

-- Any list of calls on a store

module _ {s s' : State} {cs : List Call} {hs : List Answer} (st : Store s.records s.places) (w : Whole s.records.tree) (t : Trace s cs hs s') where
  ends : Equals s.records.size s' (final s.records.size (its s st w) cs)
  ends = (theorem_sound s.records s.places st w t).1

  -- it leaves a store again, of the same size
  pub stays_store : Store s'.records s'.places
  stays_store = ends.store

  pub stays_whole : Whole s'.records.tree
  stays_whole = ends.whole

  pub stays_sized : s'.records.size ≡ s.records.size
  stays_sized = ends.sized

  pub never_unsound : NoneUnsound hs
  never_unsound = rw (theorem_sound s.records s.places st w t).0 (none_unsound s.records.size (its s st w) cs)

  -- calls that neither write a version, delete it nor take its tag leave it alive, and leave its rows
  pub lives_on : (u : ℕ) → AllSpare u cs → lives s'.records u ≡ lives s.records u
  lives_on u h = ends.living u ∙ model.lives_on s.records.size u cs (its s st w) h ∙ sym ((equals s st w).living u)

  pub reads_as_left : (u r : ℕ) → AllSpare u cs → lives s.records u ≡ true → r < s.records.size.rows → row_of_tag s'.records s'.places u r ≡ row_of_tag s.records s.places u r
  reads_as_left u r h a l =
      let b = sym ((equals s st w).living u) ∙ a in
      ends.rows u r (model.lives_on s.records.size u cs (its s st w) h ∙ b) l
      ∙ model.reads_as_left s.records.size u cs (its s st w) h r
      ∙ sym ((equals s st w).rows u r b l)

  -- After it, one more call
  module _ {h : Answer} {s'' : State} where
    -- a write that passes its earlier tests gets 24 exactly if its row is shared, every place is in use and its bytes are others, and is else accepted
    module _ {tag r : ℕ} {bs : List ℕ} (k : CallEnds s'.records s'.places (one (write tag r bs)) h s'')
        (long : length bs ≡ s'.records.size.width) (low : r < s'.records.size.rows) (a : lives s'.records tag ≡ true) where
      its_alive : alive (its s' stays_store stays_whole).snapshots tag ≡ true
      its_alive = sym ((equals s' stays_store stays_whole).living tag) ∙ a

      its_row : row_of_tag s'.records s'.places tag r ≡ (its s' stays_store stays_whole).rows.content (tag, r)
      its_row = (equals s' stays_store stays_whole).rows tag r its_alive low

      pub write_full : (h.number ≡ 24) ↔ (Shares s'.records tag r × Full s'.records × (bs ≢ row_of_tag s'.records s'.places tag r))
      unfolding reply
      write_full =
          let m = its s' stays_store stays_whole in
          let f = model.write_full s'.records.size m tag r bs long low its_alive in
          let x = shares_iff s' stays_store stays_whole tag r a low in
          let u = (equals s' stays_store stays_whole).in_use in
          rw (answered s' stays_store stays_whole k, its_row) (
            λ e. (x.1 (f.0 e).0, rw u (f.0 e).1, (f.0 e).2),
            λ y. f.1 (x.0 y.0, rw u at y.1, y.2),
          )

      pub write_accepted : (Shares s'.records tag r × Full s'.records × (bs ≢ row_of_tag s'.records s'.places tag r) → ⊥) → h.number ≡ 0
      unfolding reply
      write_accepted n =
          let m = its s' stays_store stays_whole in
          let x = shares_iff s' stays_store stays_whole tag r a low in
          let u = (equals s' stays_store stays_whole).in_use in
          ap (λ (x : Answer). x.number) (answered s' stays_store stays_whole k)
          ∙ model.write_accepted s'.records.size m tag r bs long low its_alive (λ y. n (x.1 y.0, rw u y.1, λ e. y.2 (e ∙ its_row)))

      -- a write of the bytes that the version reads there is accepted and leaves every record and every byte as it was
      pub write_untouched : bs ≡ row_of_tag s'.records s'.places tag r → (h.number ≡ 0) × (s'' ≡ s')
      write_untouched e = (write_accepted (λ y. y.2 e), call_leaves stays_store.sound k ∙ leaves_untouched s' tag r bs e)

    -- a read of a living version's row is accepted; its number counts that version, and is above 1 exactly if another reads the row from its place
    pub read_tells : {tag r : ℕ} → CallEnds s'.records s'.places (one (read tag r)) h s'' → r < s'.records.size.rows → lives s'.records tag ≡ true
        → (n : ℕ) × (h ≡ row (row_of_tag s'.records s'.places tag r) n) × (0 < n) × ((1 < n) ↔ Shares s'.records tag r)
    unfolding reply
    read_tells {tag} {r} k low a =
        let e = equals s' stays_store stays_whole in
        let b = sym (e.living tag) ∙ a in
        let (n, x, some, many) = model.read_tells s'.records.size (its s' stays_store stays_whole) tag r low b in
        let y = shares_iff s' stays_store stays_whole tag r a low in
        (n, answered s' stays_store stays_whole k ∙ x ∙ ap (λ (bs : List ℕ). row bs n) (sym (e.rows tag r b low)), some, (λ l. y.1 (many.0 l), λ i. many.1 (y.0 i)))

    -- a border that is answered with 0 has done every row
    pub border_all : {tag : ℕ} {rows bytes : List ℕ} → CallEnds s'.records s'.places (border tag rows bytes) h s'' → h.number ≡ 0 → h.numbers ≡ length rows ∷ []
    border_all {tag} {rows} {bytes} k = rw (answered s' stays_store stays_whole k) (model.border_all s'.records.size (its s' stays_store stays_whole) tag rows bytes)

    -- and one that has done none leaves every record and every byte as it was
    pub border_none : {tag : ℕ} {rows bytes : List ℕ} → CallEnds s'.records s'.places (border tag rows bytes) h s'' → h.numbers ≡ 0 ∷ [] → s'' ≡ s'
    border_none k e = leaves_none stays_store.sound k e

    -- with any refusal but 3 and 24 it has done none
    pub border_early : {tag : ℕ} {rows bytes : List ℕ} → CallEnds s'.records s'.places (border tag rows bytes) h s'' → h.number ≢ 0 → h.number ≢ 3 → h.number ≢ 24
        → (h.numbers ≡ 0 ∷ []) × (s'' ≡ s')
    border_early {tag} {rows} {bytes} k =
        let go : h.number ≢ 0 → h.number ≢ 3 → h.number ≢ 24 → h.numbers ≡ 0 ∷ [] =
        rw (answered s' stays_store stays_whole k) (borders.border_early s'.records.size (its s' stays_store stays_whole) tag rows bytes) in
        λ o p q. (go o p q, border_none k (go o p q))

    -- a snapshot is accepted exactly if its tag is neither 0 nor alive, its source lives and fewer than 64 are alive
    pub snapshot_accepted : {source new : ℕ} → CallEnds s'.records s'.places (one (snapshot source new)) h s''
        → (h.number ≡ 0) ↔ ((new ≢ 0) × (lives s'.records source ≡ true) × (lives s'.records new ≡ false) × (snapshots s'.records.tree < 64))
    unfolding reply
    snapshot_accepted {source} {new} k =
        let e = equals s' stays_store stays_whole in
        rw (answered s' stays_store stays_whole k, e.living source, e.living new, sym (alive_snapshots s' stays_store stays_whole))
        (model.snapshot_accepted s'.records.size (its s' stays_store stays_whole) source new)

-- a delete leaves every other version alive, and leaves its rows
pub delete_others : {s s' : State} {tag : ℕ} {h : Answer} → Store s.records s.places → Whole s.records.tree → CallEnds s.records s.places (one (delete tag)) h s'
    → (u r : ℕ) → tag ≢ u → lives s.records u ≡ true → r < s.records.size.rows
    → (lives s'.records u ≡ true) × (row_of_tag s'.records s'.places u r ≡ row_of_tag s.records s.places u r)
delete_others st w k u r d a l = (lives_on st w (then k over) u (d, tt) ∙ a, reads_as_left st w (then k over) u r (d, tt) a l)
