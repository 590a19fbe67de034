-- The table of cases (crates/theorem, Cases.antt), carried to every store that is called from C. Assumes nothing.
use Rattle.std.specs.Prelude.{◌≡◌, ℕ, length}
use Rattle.std.proofs.Math.Path.{refl, ap₂}
use Rattle.std.proofs.Common.{◌∙◌, eq-eqb}
use mathlib.Core.List.{List, [], ◌∷◌, map}
use Rattle.std.proofs.Math.Option.{none}
use Rattle.basics.specs.Decide.{not_no}
use Rattle.measures.specs.declared.Size.{Size}
use Rattle.answers.specs.declared.Refusal.TheVariants.{BadLength}
use Rattle.answers.specs.Answers.{Answer}
use Rattle.answers.specs.Tests.{refusal, verdict_number, in_measure}
use Rattle.answers.proofs.Laws.{refusal_next, refusal_none}
use Rattle.model.specs.Call.{Call, one}
use Rattle.model.specs.Call as on_store
use Rattle.model.specs.Model.{Model, opened, reply, next, answers}
use Rattle.theorem.proofs.Cases.{Case, Meets, cases}
use Rattle.host_open.specs.Opens.{open_tests, HostOpens}
use Rattle.hosting.specs.Calls.{HostCall, snapshot, read, write, border, delete, count, room_verdict, host_answer, host_after, host_answers}
use Rattle.hosting.specs.Called.{HostTrace}
use Rattle.hosting.proofs.Guarantee.{guarantee_opened}

-- a call as C makes it: a read is lent as many bytes as a row has
abbrev pub from_c : Size → Call → HostCall
from_c z (one (on_store.snapshot source new)) = snapshot source new
from_c z (one (on_store.read tag r)) = read tag r z.width
from_c z (one (on_store.write tag r bs)) = write tag r bs
from_c z (one (on_store.delete tag)) = delete tag
from_c z (one on_store.count) = count
from_c z (on_store.border tag rows bytes) = border tag rows bytes

-- the model answers it alike
module _ (z : Size) where
  Alike : Model → Call → Type 0
  Alike m c = (host_answer z m (from_c z c) ≡ reply z m c) × (host_after z m (from_c z c) ≡ next z m c)

  alike : (m : Model) (c : Call) → Alike m c
  unfolding Alike host_answer host_after
  alike m (one (on_store.snapshot source new)) = (refl, refl)
  alike m (one (on_store.read tag r)) =
      let v : room_verdict z (read tag r z.width) ≡ none = refusal_next BadLength [] (not_no (eq-eqb z.width z.width refl)) ∙ refusal_none in
      (rw v, rw v)
  alike m (one (on_store.write tag r bs)) = (refl, refl)
  alike m (one (on_store.delete tag)) = (refl, refl)
  alike m (one on_store.count) = (refl, refl)
  alike m (on_store.border tag rows bytes) = (refl, refl)

  answers_alike : (m : Model) (cs : List Call) → host_answers z m (map (from_c z) cs) ≡ answers z m cs
  unfolding Alike host_answers answers
  answers_alike m [] = refl
  answers_alike m (c ∷ cs) = ap₂ ◌∷◌ (alike m c).0 (rw (alike m c).1 (answers_alike (next z m c) cs))

-- the opening from C gets a line's number too, from the bytes of records and of places
abbrev pub Opens : Case → Type 0
Opens c = verdict_number (refusal (open_tests c.size c.records c.places)) ≡ c.opens

abbrev pub AllOpen : List Case → Type 0
AllOpen [] = Unit {0}
AllOpen (c ∷ cs) = Opens c × AllOpen cs

pub cases_open : AllOpen cases
unfolding refusal in_measure open_tests
cases_open = (refl, (refl, (refl, (refl, (refl, (refl, (refl, (refl, (refl, (refl, (refl, (refl, (refl, (refl, (refl, (refl, (refl, (refl, (refl, (refl, (refl, tt)))))))))))))))))))))

-- so every opening from C with such buffers gets the line's number, and the calls on what it left hand out what the line says
pub case_runs : (c : Case) → Meets c → Opens c → (b places : List ℕ) → length b ≡ c.records → length places ≡ c.places → (number : ℕ) (b₀ places₀ : List ℕ)
    → HostOpens c.size b places number (b₀, places₀)
    → (number ≡ c.opens) × (number ≡ 0 → (hs : List Answer) (b' places' : List ℕ) → HostTrace b₀ places₀ (map (from_c c.size) c.calls) hs b' places' → hs ≡ c.hands)
case_runs c met opens b places l k number b₀ places₀ o = (
  o.numbered ∙ rw (l, k) opens,
  λ e hs b' places' t.
      (guarantee_opened c.size b places b₀ places₀ (rw e at o) t).0
      ∙ answers_alike c.size (opened c.size) c.calls
      ∙ met.1,
)
