-- THE GUARANTEE for a host in C: any list of calls on lent bytes answers as the reference model, and leaves bytes of what the model has.
-- Each call loads the records that the bytes are, and what it stores is loaded again as it was. Assumes nothing.
use Rattle.std.specs.Prelude.{◌≡◌, ◌≢◌, Bool, true, false, not, eqb, leb, length, drop, replicate}
use Rattle.std.proofs.Math.Path.{refl, sym, ap}
use Rattle.std.proofs.Common.{◌∙◌, ap₂, arith, length-drop, length-take-le, eq-eqb, ne_eqb, eqb-true}
use Rattle.std.proofs.Math.Logic.{by_cases}
use mathlib.Core.List.{List, [], ◌∷◌}
use Rattle.std.proofs.Math.Option.{Option, none, some}
use Prim.Native.Nat.{ℕ, ◌+◌, ◌*◌, ◌≤◌}
use Rattle.std.proofs.Math.Decide.{ℕ_discrete}
use Rattle.std.proofs.lemmas.List.{length-replicate}
use Rattle.std.proofs.lemmas.Bool.{not-false}
use Rattle.basics.specs.Decide.{not_yes, not_no}
use Rattle.measures.specs.declared.Size.{Size}
use Rattle.measures.specs.Measures.{Within}
use Rattle.records.specs.Records.{Records, records_of, lives}
use Rattle.model.specs.Call.{Call, one}
use Rattle.model.specs.Call as on_store
use Rattle.answers.specs.declared.Refusal.{Refusal}
use Rattle.answers.specs.declared.Refusal.TheVariants.{BadSize, BadLength, BadRow, UnknownTag}
use Rattle.answers.specs.Answers.{Answer, handed, row, refused_of, number}
use Rattle.model.specs.Model.{Model, opened, reply, next}
use Rattle.answers.specs.Tests.{refusal, unless, in_measure}
use Rattle.answers.proofs.Laws.{refusal_here, refusal_next, refusal_none, refusal_passed, unless_made, measure_in, number_some}
use Rattle.soundness.specs.Judged.{Leaves, judged_sound}
use Rattle.edits.specs.Edits.{Whole, with_tree}
use Rattle.reads.specs.Reads.{read_answer, row_of_tag, sharers_of_tag}
use Rattle.reads.specs.Reads as queries
use Rattle.takes.specs.Taking.{snapshot_verdict, snapshot_tree}
use Rattle.owning.specs.Owning.{Held, held}
use Rattle.writes.specs.Writing.{write_verdict, written}
use Rattle.borders.specs.Bordering.{bordered, Ends}
use Rattle.borders.proofs.BorderingWays.{bordered_none}
use Rattle.deletes.specs.Deleting.{Left, left, delete_verdict, deleted}
use Rattle.opening.specs.First.{first_sound}
use Rattle.view.specs.View.{Store, started}
use Rattle.view.proofs.Starts.{open_agrees}
use Rattle.steps.specs.Begins.{start_call}
use Rattle.steps.specs.Calls.{Runs}
use Rattle.steps.proofs.Calls.{snapshot_call, write_call, delete_call}
use Rattle.steps.proofs.Bordered.{border_call}
use Rattle.theorem.specs.Trace.{state, CallEnds}
use Rattle.theorem.specs.Trace as trace
use Rattle.theorem.proofs.Theorem.{one_call, runs_equal}
use Rattle.laying.specs.Laws.{numbers_size}
use Rattle.layout.specs.Layout.{states_at, parents_at, tags_at, entries, part, stored, loaded, Fits}
use Rattle.layout.specs.Back.{Storable, loaded_stored, stored_fits}
use Rattle.host_read.specs.Reads.{read_tests}
use Rattle.host_border.specs.Borders.{bytes_after}
use Rattle.host_open.specs.Opens.{open_tests, first_records, HostOpens}
use Rattle.hosting.specs.Calls.{HostCall, read, room_verdict, host_answer, host_after, host_answers, host_final}
use Rattle.hosting.specs.Called.{row_in, HostCallEnds, snapshot_ends, read_ends, write_ends, border_ends, delete_ends, count_ends, HostTrace, over, then, Holds}

-- records that run can be stored
runs_storable : {z : Records} {places : List ℕ} {m : Model} → Runs z places m → Storable z
runs_storable run =
    let s = run.store.sound.measured in
    let w = run.whole in
    record { within = s.within; states = w.state; parents = w.parent; tags = w.tag; nodes = s.nodes; rows = s.rows }

-- What a call leaves of the record bytes is loaded as what it leaves of the records

module _ (b : List ℕ) (f : Fits b) where
  reload : (v : Option Refusal) (new got : Records) {b' : List ℕ} → b' ≡ unless v (λ x. b) (stored new) → got ≡ unless v (λ x. loaded b) new → Storable got → (loaded b' ≡ got) × Fits b'
  reload none new got e h s = rw (e, sym h) (loaded_stored got s, stored_fits got s)
  reload (some x) new got e h s = rw (e) (sym h, f)

abbrev left_of : Records → Left → Records
left_of z l = records_of z.size l.tree l.node l.row

abbrev held_of : Records → Held → Records
held_of z h = records_of z.size h.tree h.node h.row

module _ (v : Option Refusal) (z : Records) (places : List ℕ) (h : Held) where
  abbrev kept : Held
  kept = unless v (λ x. held z.tree z.node z.row places) h

pair_chosen : (v : Option Refusal) (z : Records) (b places : List ℕ) (h : Held) {b' places' : List ℕ} → ◌≡◌ {A = List ℕ × List ℕ} (b', places') (unless v (λ x. (b, places)) (stored (held_of z h), h.places))
    → (b' ≡ unless v (λ x. b) (stored (held_of z h))) × (places' ≡ (kept v z places h).places)
pair_chosen none z b places h e = (ap (λ (p : List ℕ × List ℕ). p.0) e, ap (λ (p : List ℕ × List ℕ). p.1) e)
pair_chosen (some x) z b places h e = (ap (λ (p : List ℕ × List ℕ). p.0) e, ap (λ (p : List ℕ × List ℕ). p.1) e)

-- A border that did some row leaves what it stored; one that did none leaves the bytes, and has changed nothing
reload_border : (b : List ℕ) → Fits b → (n : ℕ) (h old : Held) {b' : List ℕ} → loaded b ≡ held_of (loaded b) old → (n ≡ 0 → h ≡ old) → b' ≡ bytes_after b n (stored (held_of (loaded b) h)) → Storable (held_of (loaded b) h)
    → (loaded b' ≡ held_of (loaded b) h) × Fits b'
reload_border b f n h old {b'} here same e s = by_cases (ℕ_discrete n 0)
    (λ z. let k : b' ≡ b = rw (eq-eqb n 0 z) at e in rw k (here ∙ ap (held_of (loaded b)) (sym (same z)), f))
    (λ z. let k : b' ≡ stored (held_of (loaded b) h) = rw (ne_eqb n 0 z) at e in rw k (loaded_stored (held_of (loaded b) h) s, stored_fits (held_of (loaded b) h) s))

-- A read into as many bytes as a row has is a read

passes : (p r t : Bool) → refusal ((p, BadLength) ∷ (false, BadLength) ∷ (r, BadRow) ∷ (t, UnknownTag) ∷ []) ≡ refusal ((p, BadLength) ∷ (r, BadRow) ∷ (t, UnknownTag) ∷ [])
unfolding refusal
passes true r t = refl
passes false r t = refl

read_tests_lem : (z : Records) (places out : List ℕ) (tag r : ℕ) → length out ≡ z.size.width → refusal (read_tests z (length places) (length out) tag r) ≡ refusal (queries.read_tests z (length places) tag r)
unfolding read_tests queries.read_tests
read_tests_lem z places out tag r e = rw (e, eq-eqb z.size.width z.size.width refl) (passes (not (eqb (length places) (z.size.places * z.size.width))) (leb z.size.rows r) (not (lives z tag)))

read_hands : (v : Option Refusal) (bytes out out' : List ℕ) (seen sharers : ℕ) {answer : ℕ} → Leaves {A = List ℕ × ℕ} v (out, 0) (bytes, seen) answer (out', sharers)
    → handed answer (row_in answer out') (sharers ∷ []) ≡ unless v (refused_of 1) (row bytes seen)
unfolding row_in
read_hands none bytes out out' seen sharers l = rw l.numbered (λ i. row (l.left i).0 (l.left i).1)
read_hands (some x) bytes out out' seen sharers l = rw (l.numbered, ne_eqb (number x) 0 (number_some x)) (λ i. handed (number x) [] ((l.left i).1 ∷ []))

answered : (z : Records) (places : List ℕ) (tag r number : ℕ) (bytes : List ℕ) (sharers : ℕ)
    → handed number bytes (sharers ∷ []) ≡ unless (refusal (queries.read_tests z (length places) tag r)) (refused_of 1) (row (row_of_tag z places tag r) (sharers_of_tag z tag r))
    → handed number bytes (sharers ∷ []) ≡ read_answer z places tag r
unfolding read_answer
answered z places tag r number bytes sharers h = h

-- a read into any other number of bytes is refused with 2, and fills nothing
wrong_room : (z : Records) (places out : List ℕ) (tag r : ℕ) → length places ≡ z.size.places * z.size.width → length out ≢ z.size.width
    → refusal (read_tests z (length places) (length out) tag r) ≡ some BadLength
unfolding read_tests
wrong_room z places out tag r p w = refusal_next BadLength _ (not_no (eq-eqb _ _ p)) ∙ refusal_here BadLength _ (not_yes (ne_eqb _ _ w))

unfilled : (v : Option Refusal) (bytes out out' : List ℕ) (seen sharers : ℕ) {answer : ℕ} → v ≡ some BadLength → Leaves {A = List ℕ × ℕ} v (out, 0) (bytes, seen) answer (out', sharers)
    → handed answer (row_in answer out') (sharers ∷ []) ≡ refused_of 1 BadLength
unfolding row_in
unfilled v bytes out out' seen sharers {answer} e l =
    let n : answer ≡ 2 = l.numbered ∙ rw e in
    let k : ◌≡◌ {A = List ℕ × ℕ} (out', sharers) (out, 0) = l.left ∙ rw e in
    rw n (λ i. handed 2 [] ((k i).1 ∷ []))

-- One call from C, and what the model says of it

module _ (z : Size) (m : Model) where
  room_fits : (tag r n : ℕ) → n ≡ z.width → (host_answer z m (read tag r n) ≡ reply z m (one (on_store.read tag r))) × (host_after z m (read tag r n) ≡ next z m (one (on_store.read tag r)))
  unfolding host_answer host_after
  room_fits tag r n e =
      let v : room_verdict z (read tag r n) ≡ none = refusal_next BadLength [] (not_no (eq-eqb n z.width e)) ∙ refusal_none in
      (rw v, rw v)

  room_wrong : (tag r n : ℕ) → n ≢ z.width → (host_answer z m (read tag r n) ≡ refused_of 1 BadLength) × (host_after z m (read tag r n) ≡ m)
  unfolding host_answer host_after
  room_wrong tag r n e =
      let v : room_verdict z (read tag r n) ≡ some BadLength = refusal_here BadLength [] (not_yes (ne_eqb n z.width e)) in
      (rw v, rw v)

-- what is to be shown of one call from C
pub record Told (b : List ℕ) (m : Model) (c : HostCall) (h : Answer) (b' places' : List ℕ) : Type 0 where
  pub hands : h ≡ host_answer (loaded b).size m c
  pub sized : (loaded b').size ≡ (loaded b).size
  pub fits : Fits b'
  pub runs : Runs (loaded b') places' (host_after (loaded b).size m c)

module _ (b places : List ℕ) (m : Model) (f : Fits b) (run : Runs (loaded b) places m) where
  abbrev z : Records
  z = loaded b

  -- it is a call on the records that the bytes are loaded as
  told : {c : HostCall} {k : Call} {h : Answer} {b' places' : List ℕ} → host_answer z.size m c ≡ reply z.size m k → host_after z.size m c ≡ next z.size m k
      → Fits b' → CallEnds z places k h (state (loaded b') places') → Told b m c h b' places'
  told p q fits k = let (h, e, r) = one_call run k in record { hands = h ∙ sym p; sized = e; fits = fits; runs = rw q r }

  host_call : {c : HostCall} {h : Answer} {b' places' : List ℕ} → HostCallEnds b places c h b' places' → Told b m c h b' places'
  unfolding host_answer host_after
  host_call (snapshot_ends {source = source} {new = new} {number = number} e) =
      let l = e.sound f run.store.sound in
      let v = snapshot_verdict z source new in
      let t = snapshot_tree z.tree source new in
      let got : Leaves v z.tree t number (unless v (λ x. z.tree) t) = record { numbered = l.numbered; left = refl } in
      let next = (snapshot_call z places m run source new number _ got).1 in
      let (same, fits) = reload b f v (with_tree z t) _ l.left (unless_made (with_tree z) v z.tree t) (runs_storable next) in
      told refl refl fits (rw same (trace.snapshot_ends (judged_sound run.store.sound got)))
  host_call (read_ends {tag = tag} {r = r} {number = number} {sharers = sharers} {out = out} {out' = out'} e) = by_cases (ℕ_discrete (length out) z.size.width)
      (λ w.
      let (p, q) = room_fits z.size m tag r (length out) w in
      let l = rw (read_tests_lem z places out tag r w) at (e.sound f run.store.sound) in
      told p q f (trace.read_ends (judged_sound run.store.sound (answered z places tag r number (row_in number out') sharers
      (read_hands (refusal (queries.read_tests z (length places) tag r)) (row_of_tag z places tag r) out out' (sharers_of_tag z tag r) sharers l)))))
      (λ w.
      let (p, q) = room_wrong z.size m tag r (length out) w in
      let h = unfilled _ _ out out' _ sharers (wrong_room z places out tag r run.store.size w) (e.sound f run.store.sound) in
      record { hands = h ∙ sym p; sized = refl; fits = f; runs = rw q run })
  host_call (write_ends {tag = tag} {r = r} {number = number} {bs = bs} e) =
      let l = e.sound f run.store.sound in
      let v = write_verdict z places tag r bs in
      let h = written z places tag r bs in
      let got : Leaves v (held z.tree z.node z.row places) h number (kept v z places h) = record { numbered = l.numbered; left = refl } in
      let next = (write_call z places m run tag r number bs _ got).1 in
      let (bytes, rest) = pair_chosen v z b places h l.left in
      let (same, fits) = reload b f v (held_of z h) _ bytes (unless_made (held_of z) v (held z.tree z.node z.row places) h) (runs_storable next) in
      told refl refl fits (rw (same, rest) (trace.write_ends (judged_sound run.store.sound got)))
  host_call (border_ends {tag = tag} {number = number} {done = done} {rows = rows} {bytes = bytes} e) =
      let l = e.sound f run.store.sound in
      let x = bordered z places tag rows bytes in
      let got : Ends x number done x.left = record { numbered = l.numbered; counted = l.counted; left = refl } in
      let next = (border_call z places m run tag rows bytes number done x.left got).1 in
      let (same, fits) = reload_border b f x.done x.left (held z.tree z.node z.row places) refl (bordered_none z places tag rows bytes) (ap (λ (p : List ℕ × List ℕ). p.0) l.left) (runs_storable next) in
      told refl refl fits (rw (same, ap (λ (p : List ℕ × List ℕ). p.1) l.left) (trace.border_ends (judged_sound run.store.sound got)))
  host_call (delete_ends {tag = tag} {number = number} e) =
      let l = e.sound f run.store.sound in
      let v = delete_verdict z tag in
      let d = deleted z tag in
      let got : Leaves v (left z.tree z.node z.row) d number (unless v (λ x. left z.tree z.node z.row) d) = record { numbered = l.numbered; left = refl } in
      let next = (delete_call z places m run tag number _ got).1 in
      let (same, fits) = reload b f v (left_of z d) _ l.left (unless_made (left_of z) v (left z.tree z.node z.row) d) (runs_storable next) in
      told refl refl fits (rw same (trace.delete_ends (judged_sound run.store.sound got)))
  host_call (count_ends e) = told refl refl f (trace.count_ends (judged_sound run.store.sound (e.sound f run.store.sound)))

-- Any list of calls from C

module _ (size : Size) where
  host_list : {b places b' places' : List ℕ} {m : Model} {cs : List HostCall} {hs : List Answer} → Fits b → (loaded b).size ≡ size → Runs (loaded b) places m → HostTrace b places cs hs b' places'
      → (hs ≡ host_answers size m cs) × Holds size b' places' (host_final size m cs)
  unfolding host_answers host_final
  host_list f e run over = (refl, record { fits = f; equals = runs_equal size _ _ e run })
  host_list {b} {places} {m = m} f e run (then {c = c} k rest) =
      let t = host_call b places m f run k in
      let (hs, last) = host_list t.fits (t.sized ∙ e) (rw e at t.runs) rest in
      (ap₂ ◌∷◌ (t.hands ∙ ap (λ (x : Size). host_answer x m c) e) hs, last)

-- From an accepted opening

-- an accepted opening has passed its tests
open_passed : (z : Size) (b places : List ℕ) → refusal (open_tests z (length b) (length places)) ≡ none → Within z × (length places ≡ z.places * z.width)
unfolding open_tests
open_passed z b places e =
    let (a, e₁) = refusal_passed (not (in_measure z)) BadSize _ e in
    let (c, e₂) = refusal_passed (not (eqb (length places) (z.places * z.width))) BadLength _ e₁ in
    (measure_in z (not-false _ a), eqb-true _ _ (not-false _ c))

first_runs : (z : Size) → Within z → Runs (first_records z) (replicate (z.places * z.width) 0) (opened z)
first_runs z w = record {
  store = record { sound = first_sound z w (entries z) refl; size = length-replicate (z.places * z.width) 0 };
  whole = record { state = refl; tag = refl; parent = refl };
  agrees = open_agrees z w (entries z) refl;
}

opened_runs : (z : Size) (b places : List ℕ) {b' places' : List ℕ} → HostOpens z b places 0 (b', places') → Fits b' × ((loaded b').size ≡ z) × Runs (loaded b') places' (opened z)
opened_runs z b places {b'} {places'} o = go (refusal (open_tests z (length b) (length places))) refl o
  where
    go : (v : Option Refusal) → refusal (open_tests z (length b) (length places)) ≡ v → Leaves {A = List ℕ × List ℕ} v (b, places) (stored (first_records z), replicate (length places) 0) 0 (b', places')
        → Fits b' × ((loaded b').size ≡ z) × Runs (loaded b') places' (opened z)
    go (some x) e l = absurd (number_some x (sym l.numbered))
    go none e l =
        let (w, long) = open_passed z b places e in
        let run = first_runs z w in
        let s = runs_storable run in
        let bytes : b' ≡ stored (first_records z) = ap (λ (p : List ℕ × List ℕ). p.0) l.left in
        let rest : places' ≡ replicate (length places) 0 = ap (λ (p : List ℕ × List ℕ). p.1) l.left in
        rw (bytes, rest, long, loaded_stored (first_records z) s) (stored_fits (first_records z) s, refl, run)

pub guarantee_opened : (z : Size) (b places b₀ places₀ : List ℕ) → HostOpens z b places 0 (b₀, places₀)
    → {cs : List HostCall} {hs : List Answer} {b' places' : List ℕ} → HostTrace b₀ places₀ cs hs b' places'
    → (hs ≡ host_answers z (opened z) cs) × Holds z b' places' (host_final z (opened z) cs)
guarantee_opened z b places b₀ places₀ o t = let (f, e, run) = opened_runs z b places o in host_list z f e run t

-- From bytes of sound records, with P × B bytes of places

pub loaded_whole : (b : List ℕ) → Fits b → Whole (loaded b).tree
unfolding loaded
loaded_whole b f = record { state = long states_at 128 (omega (arith, f.long)); tag = numbers_size _ 128 (long tags_at 256 (omega (arith, f.long))); parent = long parents_at 128 (omega (arith, f.long)) }
  where
    long : (from n : ℕ) → from + n ≤ length b → length (part from n b) ≡ n
    long from n l = length-take-le n (drop from b) (omega (arith, length-drop from b))

pub guarantee_sound : (b places : List ℕ) → Fits b → Store (loaded b) places
    → {cs : List HostCall} {hs : List Answer} {b' places' : List ℕ} → HostTrace b places cs hs b' places'
    → (hs ≡ host_answers (loaded b).size (started (loaded b) places) cs) × Holds (loaded b).size b' places' (host_final (loaded b).size (started (loaded b) places) cs)
guarantee_sound b places f st t = host_list (loaded b).size f refl (start_call (loaded b) places st (loaded_whole b f)) t
