-- THE THEOREM (the client's third demand, SPEC 10): any list of calls on a store answers as the reference model, and leaves what the model has.
-- It is one statement over the whole list, for a store fresh from its opening and for sound records from elsewhere alike. Assumes nothing.
use Rattle.std.specs.Prelude.{◌≡◌, refl, ℕ}
use Rattle.std.proofs.Common.{sym, ◌∙◌, ap₂}
use Rattle.std.proofs.Math.Path.{ap}
use mathlib.Core.List.{List, ◌∷◌}
use Rattle.std.proofs.Math.Option.{none}
use Rattle.measures.specs.declared.Size.{Size}
use Rattle.trees.specs.declared.Tree.{Tree}
use Rattle.records.specs.Records.{Records, records_of}
use Rattle.model.specs.Call.{Call}
use Rattle.answers.specs.Answers.{Answer}
use Rattle.model.specs.Model.{Model, opened, reply, next, answers, final}
use Rattle.copies.specs.Copies.{places_used}
use Rattle.maps.specs.Keeping.{sharers_same}
use Rattle.agreement.proofs.Steps.{used_agree}
use Rattle.edits.specs.Edits.{Whole}
use Rattle.opening.specs.Opening.{open_verdict, Opening}
use Rattle.reads.specs.Reads.{row_of_tag}
use Rattle.view.specs.View.{view, Store, started}
use Rattle.view.proofs.Viewed.{view_alive, view_used}
use Rattle.view.proofs.Sharers.{view_sharers}
use Rattle.steps.specs.Calls.{Runs}
use Rattle.steps.proofs.Calls.{read_call, count_call, snapshot_call, write_call, delete_call}
use Rattle.steps.proofs.Bordered.{border_call}
use Rattle.steps.specs.Begins.{open_call, start_call}
use Rattle.theorem.specs.Trace.{State, state, CallEnds, snapshot_ends, read_ends, write_ends, border_ends, delete_ends, count_ends, Trace, over, then, Equals}

-- one call: the sound side of its promise applies, and its step theorem gives the rest
pub one_call : {z : Records} {places : List ℕ} {m : Model} {c : Call} {h : Answer} {s' : State} → Runs z places m → CallEnds z places c h s'
    → (h ≡ reply z.size m c) × (s'.records.size ≡ z.size) × Runs s'.records s'.places (next z.size m c)
unfolding reply next
one_call {z} {places} {m} run (snapshot_ends {source = source} {new = new} {number = number} {tree = tree} e) =
    let (h, u) = snapshot_call z places m run source new number tree (e.sound run.store.sound) in
    (h, refl, u)
one_call {z} {places} {m} run (read_ends {tag = tag} {r = r} {number = number} {sharers = sharers} {bytes = bytes} e) =
    let (h, u) = read_call z places m run tag r number bytes sharers (e.sound run.store.sound) in
    (h, refl, u)
one_call {z} {places} {m} run (write_ends {tag = tag} {r = r} {number = number} {bs = bs} {got = got} e) =
    let (h, u) = write_call z places m run tag r number bs got (e.sound run.store.sound) in
    (h, refl, u)
one_call {z} {places} {m} run (border_ends {tag = tag} {number = number} {done = done} {rows = rows} {bytes = bytes} {got = got} e) =
    let (h, u) = border_call z places m run tag rows bytes number done got (e.sound run.store.sound) in
    (h, refl, u)
one_call {z} {places} {m} run (delete_ends {tag = tag} {number = number} {got = got} e) =
    let (h, u) = delete_call z places m run tag number got (e.sound run.store.sound) in
    (h, refl, u)
one_call {z} {places} {m} run (count_ends {number = number} {in_use = in_use} {alive = alive} e) =
    let (h, u) = count_call z places m run number in_use alive (e.sound run.store.sound) in
    (h, refl, u)

-- a store that runs equals its model
pub runs_equal : (size : Size) (s : State) (m : Model) → s.records.size ≡ size → Runs s.records s.places m → Equals size s m
unfolding row_of_tag view
runs_equal size s m e run =
    let k = run.store.sound in
    let a = run.agrees.rows in
    record {
      sized = e;
      store = run.store;
      whole = run.whole;
      living = λ t. sym (view_alive s.records k s.places t) ∙ a.living t;
      rows = λ t r h l. a.content (t, r) (h, rw e l);
      sharing = λ t u r h g l. a.names (t, r) (u, r) (h, rw e l) (g, rw e l);
      sharers = λ t r h l. sym (view_sharers s.records k s.places t r (sym (view_alive s.records k s.places t) ∙ a.living t ∙ h)) ∙ sharers_same s.records.size.rows a t r (h, rw e l);
      in_use = sym (view_used s.records k s.places) ∙ used_agree s.records.size run.agrees ∙ ap (λ (x : Size). places_used x.rows m.snapshots m.rows.mark) e;
    }

-- any list of calls
module _ (size : Size) where
  pub any_list : {s s' : State} {m : Model} {cs : List Call} {hs : List Answer} → s.records.size ≡ size → Runs s.records s.places m → Trace s cs hs s'
      → (hs ≡ answers size m cs) × Equals size s' (final size m cs)
  unfolding answers final
  any_list e run over = (refl, runs_equal size _ _ e run)
  any_list {m = m} e run (then {c = c} k rest) =
      let (h, z, next) = one_call run k in
      let (hs, last) = any_list (z ∙ e) (rw e at next) rest in
      (ap₂ ◌∷◌ (h ∙ ap (λ (x : Size). reply x m c) e) hs, last)

-- From an accepted opening: the lists are the lent places and the two halves of the table, before and after it
pub theorem_opened : (size : Size) (places nodes rows : List ℕ) (number : ℕ) (tree : Tree) (places' nodes' rows' : List ℕ)
    → Opening size places nodes rows number tree places' nodes' rows' → open_verdict size places nodes rows ≡ none
    → {cs : List Call} {hs : List Answer} {s' : State} → Trace (state (records_of size tree nodes' rows') places') cs hs s'
    → (hs ≡ answers size (opened size) cs) × Equals size s' (final size (opened size) cs)
theorem_opened size places nodes rows number tree places' nodes' rows' o v t = any_list size refl (open_call size places nodes rows number tree places' nodes' rows' o v).1 t

-- From sound records with P × B bytes of places, whose arrays are whole
pub theorem_sound : (z : Records) (places : List ℕ) → Store z places → Whole z.tree
    → {cs : List Call} {hs : List Answer} {s' : State} → Trace (state z places) cs hs s'
    → (hs ≡ answers z.size (started z places) cs) × Equals z.size s' (final z.size (started z places) cs)
theorem_sound z places st w t = any_list z.size refl (start_call z places st w) t
