-- The calls from C, and what the reference model answers to them: as to calls on records, but a read also lends bytes to be filled, and of these
-- the model sees how many they are. Definitions only. Assumes nothing.
use Rattle.std.specs.Prelude.{not, List, [], ◌∷◌, ℕ, eqb}
use Rattle.std.proofs.Math.Option.{Option, none}
use Rattle.measures.specs.declared.Size.{Size}
use Rattle.answers.specs.declared.Refusal.{Refusal}
use Rattle.answers.specs.declared.Refusal.TheVariants.{BadLength}
use Rattle.answers.specs.Answers.{Answer, refused_of}
use Rattle.answers.specs.Tests.{refusal, unless}
use Rattle.model.specs.Call.{Call, one}
use Rattle.model.specs.Call as on_store
use Rattle.model.specs.Model.{Model, gives, reply, next}

pub data HostCall : Type 0 where
  -- of the version with the first tag, under the second
  snapshot : ℕ → ℕ → HostCall
  -- a tag, a row, and how many bytes are lent to be filled
  read : ℕ → ℕ → ℕ → HostCall
  -- a tag, a row, the row's bytes
  write : ℕ → ℕ → List ℕ → HostCall
  -- a tag, row numbers, and the rows' bytes one after the other
  border : ℕ → List ℕ → List ℕ → HostCall
  delete : ℕ → HostCall
  count : HostCall

-- the call on records that it makes
abbrev pub on_records : HostCall → Call
on_records (snapshot source new) = one (on_store.snapshot source new)
on_records (read tag r room) = one (on_store.read tag r)
on_records (write tag r bs) = one (on_store.write tag r bs)
on_records (border tag rows bytes) = on_store.border tag rows bytes
on_records (delete tag) = one (on_store.delete tag)
on_records count = one on_store.count

-- the test of what is lent to be filled: as many bytes as a row has. It comes before the call's own
abbrev pub room_verdict : Size → HostCall → Option Refusal
room_verdict z (snapshot source new) = none
room_verdict z (read tag r room) = refusal ((not (eqb room z.width), BadLength) ∷ [])
room_verdict z (write tag r bs) = none
room_verdict z (border tag rows bytes) = none
room_verdict z (delete tag) = none
room_verdict z count = none

module _ (z : Size) where  -- one call: its answer, and the model after it; a refusal changes nothing
  unfoldable pub host_answer : Model → HostCall → Answer
  host_answer m c = unless (room_verdict z c) (refused_of (gives (on_records c))) (reply z m (on_records c))

  unfoldable pub host_after : Model → HostCall → Model
  host_after m c = unless (room_verdict z c) (λ r. m) (next z m (on_records c))

  -- any list of calls
  unfoldable pub host_answers : Model → List HostCall → List Answer
  host_answers m [] = []
  host_answers m (c ∷ cs) = host_answer m c ∷ host_answers (host_after m c) cs

  unfoldable pub host_final : Model → List HostCall → Model
  host_final m [] = m
  host_final m (c ∷ cs) = host_final (host_after m c) cs
