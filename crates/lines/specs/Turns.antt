-- One turn of a run: a call and its line, or the end. Definitions only. Assumes nothing.
use Rattle.std.specs.Prelude.{◌≡◌, true, cond, List, ◌++◌, ℕ, ◌+◌, ◌*◌, ◌≤◌, ◌<◌, length}
use Rattle.records.specs.Records.{Records}
use Rattle.model.specs.Model.{Model, final}
use Rattle.theorem.specs.Trace.{state, left_by}
use Rattle.steps.specs.Calls.{Runs}
use Rattle.laying.specs.Laid.{Lays}
use Rattle.commands.specs.declared.Step.{Step}
use Rattle.commands.specs.Format.{step_at, calls_from}
use Rattle.progress.specs.declared.Run.{Run}
use Rattle.progress.specs.Replying.{Progress, line_room, records_in, Room, progress_of}
use Rattle.lines.specs.Lines.{text_from}

-- what stands at a position was read there, and its line has room
pub record Ready (run : Progress) (step : Step) (s : List ℕ) (at : ℕ) (out : List ℕ) : Type 0 where
  pub stands : step ≡ step_at run.size.width s at
  pub narrow : run.size.width ≤ 1024
  pub inside : at ≤ length s
  pub fits : run.end ≤ length out
  pub room : at < length s → Room run (line_room run.size.width) out

-- where a run has come to: the next command, or the end of the stream
abbrev pub reached : List ℕ → Progress → ℕ → ℕ
reached s run next = cond run.going next (length s)

-- what is left of the text, of the model's calls and of the store's is that of the rest of the stream
pub record Onward (z : Records) (places s : List ℕ) (p k : ℕ) (m : Model) (text : List ℕ) (z' : Records) (places' : List ℕ) (next k' : ℕ) (m' : Model) (n : ℕ) : Type 0 where
  pub left : ℕ
  pub enough : length s ≤ next + left
  pub says : text_from z.size s n k m p ≡ text ++ text_from z.size s left k' m' next
  pub lasts : final z.size m (calls_from z.size.width s n p) ≡ final z.size m' (calls_from z.size.width s left next)
  pub leaves : left_by (state z places) (calls_from z.size.width s n p) ≡ left_by (state z' places') (calls_from z.size.width s left next)

-- for a model that agreed before: the model after it, and what was laid
pub record Served (z : Records) (places s : List ℕ) (p k : ℕ) (m : Model) (out : List ℕ) (from : ℕ) (z' : Records) (places' out' : List ℕ) (next k' to : ℕ) : Type 0 where
  pub model : Model
  pub runs : Runs z' places' model
  pub text : List ℕ
  pub lays : Lays out from text out' to
  pub rest : (n : ℕ) → length s ≤ p + n → Onward z places s p k m text z' places' next k' model n

pub record Turned (run : Progress) (node row places s : List ℕ) (at : ℕ) (out : List ℕ) (r : Progress) (node' row' places' out' : List ℕ) (next : ℕ) : Type 0 where
  pub sized : r.size ≡ run.size
  pub long : length out' ≡ length out
  pub moves : r.going ≡ true → (at < next) × (next ≤ length s)
  pub ahead : at ≤ reached s r next
  pub short : r.end + line_room run.size.width * at ≤ run.end + line_room run.size.width * reached s r next
  pub few : r.line + at ≤ run.line + reached s r next
  pub serves : (m : Model) → Runs (records_in run node row) places m
      → Served (records_in run node row) places s at run.line m out run.end (records_in r node' row') places' out' (reached s r next) r.line r.end

-- the same of a run as it is lent
abbrev pub RunReady : Run → Step → List ℕ → ℕ → Type 0
RunReady run step s at = Ready (progress_of run) step s at run.text.now.bytes.now

abbrev pub RunTurned : Run → List ℕ → ℕ → Run → ℕ → Type 0
RunTurned a s at b next =
    Turned (progress_of a) a.records.now.node.now a.records.now.row.now a.places.now s at a.text.now.bytes.now
    (progress_of b) b.records.now.node.now b.records.now.row.now b.places.now b.text.now.bytes.now next
