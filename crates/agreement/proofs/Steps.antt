-- One thing done: the answer is the model's, and agreement is kept; and where it begins. Assumes nothing.
use Rattle.std.specs.Prelude.{◌≡◌, ℕ, ◌<◌, replicate}
use Rattle.std.proofs.Math.Path.{refl}
use Rattle.std.proofs.Common.{◌∙◌}
use Rattle.std.proofs.Math.Option.{Option, none, some}
use Rattle.basics.specs.Equal.{equal, equal_refl, equal_true}
use Rattle.measures.specs.declared.Size.{Size}
use Rattle.model.specs.Call.{Single, snapshot, read, write, delete, count}
use Rattle.answers.specs.declared.Refusal.{Refusal}
use Rattle.answers.specs.Answers.{Answer}
use Rattle.copies.specs.Copies.{Cell, Live, places_used}
use Rattle.maps.specs.Map.{first_map, Alike}
use Rattle.maps.specs.Keeping.{used_same, first_mirrors, start_mirrors, alike_keeps, snapshot_keeps, delete_keeps}
use Rattle.maps.proofs.Writing.{save_keeps}
use Rattle.model.specs.Model.{Model, effect, opened, verdict, answer, after}
use Rattle.answers.specs.Tests.{unless}
use Rattle.agreement.specs.Agree.{RowMap, Effect, Step, Agree}
use Rattle.agreement.specs.Verdicts.{snapshot_passed, write_passed, delete_passed, verdict_same, answer_same}

-- the agreement sees of a map only the living rows
pub alike_agree : (z : Size) {m m' : RowMap} {s : Model} → Agree z m s → Alike z.rows m' m → Agree z m' s
alike_agree z a k = record { rows = alike_keeps z.rows a.rows k }

module _ (z : Size) {m : RowMap} {s : Model} (a : Agree z m s) where
  effect_agree : (c : Single) {m' : RowMap} → verdict z s c ≡ none → Effect z m c m' → Agree z m' (effect s c)
  unfolding verdict Effect effect
  effect_agree (snapshot u t) e k = record { rows = alike_keeps z.rows (snapshot_keeps z.rows a.rows u t (snapshot_passed z s.snapshots s.rows.mark s.rows.content u t e)) k }
  effect_agree (read t r) e k = alike_agree z a k
  effect_agree (write t r bs) e k = record { rows = save_keeps z.rows a.rows equal equal_refl equal_true t r bs (write_passed z s.snapshots s.rows.mark s.rows.content t r bs e) k }
  effect_agree (delete t) e k = record { rows = alike_keeps z.rows (delete_keeps z.rows a.rows t (delete_passed z s.snapshots s.rows.mark s.rows.content t e)) k }
  effect_agree count e k = alike_agree z a k

  -- accepted or refused
  either_agree : (c : Single) {m' : RowMap} (v : Option Refusal) → verdict z s c ≡ v → unless v (λ r. Alike z.rows m' m) (Effect z m c m') → Agree z m' (unless v (λ r. s) (effect s c))
  either_agree c none e k = effect_agree c e k
  either_agree c (some r) e k = alike_agree z a k

  pub step_agree : (c : Single) {o : Answer} {m' : RowMap} → Step z m c o m' → (o ≡ answer z s c) × Agree z m' (after z s c)
  unfolding after
  step_agree c st = (st.says ∙ answer_same z a c, either_agree c (verdict z s c) refl (rw (verdict_same z a c) at st.goes))

  -- as many places in use as marks
  pub used_agree : places_used z.rows m.tags m.place ≡ places_used z.rows s.snapshots s.rows.mark
  used_agree = used_same z.rows a.rows

-- where it begins: with the opened model, and, of any map whose rows keep apart, with the model that has its places for marks
pub first_agree : (z : Size) → Agree z (first_map (replicate z.width 0)) (opened z)
unfolding opened
first_agree z = record { rows = first_mirrors z.rows (replicate z.width 0) }

pub start_agree : (z : Size) (m : RowMap) → ((c : Cell) → Live z.rows m.tags c → m.place c < z.places)
    → ((a b : Cell) → Live z.rows m.tags a → Live z.rows m.tags b → m.place a ≡ m.place b → a.1 ≡ b.1)
    → ((r : ℕ) → r < z.rows → m.place (0, r) ≡ r)
    → Agree z m (record { snapshots = m.tags; rows = record { content = λ c. m.content (m.place c); mark = m.place; next = z.places } })
start_agree z m low rows home = record { rows = start_mirrors z.rows m z.places low rows home }
