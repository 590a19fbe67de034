-- A run between two commands, and what a call with its line does to it. Definitions only. Assumes nothing.
use Rattle.std.specs.Prelude.{◌≡◌, Bool, true, false, List, ℕ, ◌+◌, ◌*◌, ◌≤◌, length}
use Rattle.trees.specs.declared.Tree.{Tree}
use Rattle.records.specs.Records.{Records, records_of}
use Rattle.records.specs.Lent.{SameLent}
use Rattle.answers.specs.Answers.{Answer}
use Rattle.model.specs.Call.{Call}
use Rattle.theorem.specs.Trace.{state, CallEnds}
use Rattle.text.specs.Text.{line, dash, shown}
use Rattle.laying.specs.Laid.{Lays}
use Rattle.progress.specs.declared.Run.{Run}
use Rattle.measures.specs.declared.Size.{Size}

-- bytes that a line takes at most, where a row has `width`
abbrev pub line_room : ℕ → ℕ
line_room width = 20 + 2 * width

-- a run between two commands: the store's size and tree, the end of the text so far, the next line's number, and whether it goes on
pub record Progress : Type 0 where
  pub size : Size
  pub tree : Tree
  pub end : ℕ
  pub line : ℕ
  pub going : Bool

-- the records that a run has come to
abbrev pub records_in : Progress → List ℕ → List ℕ → Records
records_in run node row = records_of run.size run.tree node row

-- behind a call that left a tree, and whose line ends at `end`; and at its end
abbrev pub onward : Progress → Tree → ℕ → Progress
onward run tree end = record { size = run.size; tree = tree; end = end; line = run.line + 1; going = true }

abbrev pub stopped : Progress → ℕ → Progress
stopped run end = record { size = run.size; tree = run.tree; end = end; line = run.line; going = false }

-- n bytes are left for the next line, and its number is small
pub record Room (run : Progress) (n : ℕ) (out : List ℕ) : Type 0 where
  pub fits : run.end + n ≤ length out
  pub few : run.line ≤ 4097

-- a call was made as its promise says, and the line of what it hands out was laid
pub record Replied (z : Records) (places : List ℕ) (c : Call) (k : ℕ) (out : List ℕ) (from : ℕ) (z' : Records) (places' out' : List ℕ) (to : ℕ) : Type 0 where
  pub hands : Answer
  pub ends : CallEnds z places c hands (state z' places')
  pub lays : Lays out from (line k hands.number (shown hands)) out' to
  pub short : length (shown hands) ≤ 9 + 2 * z.size.width

pub record Answered (run : Progress) (node row places : List ℕ) (c : Call) (out : List ℕ) (r : Progress) (node' row' places' out' : List ℕ) : Type 0 where
  pub tree : Tree
  pub end : ℕ
  pub goes : r ≡ onward run tree end
  pub replied : Replied (records_in run node row) places c run.line out run.end (records_of run.size tree node' row') places' out' end

pub record Stopped (run : Progress) (number : ℕ) (out : List ℕ) (r : Progress) (out' : List ℕ) : Type 0 where
  pub end : ℕ
  pub goes : r ≡ stopped run end
  pub lays : Lays out run.end (line run.line number dash) out' end

-- A run as it is lent

abbrev pub progress_of : Run → Progress
progress_of r = record { size = r.records.now.size; tree = r.records.now.tree; end = r.text.now.end; line = r.line; going = r.going }

-- the same is lent
pub record SameRun (a b : Run) : Type 0 where
  pub records : b.records.ghost_name ≡ a.records.ghost_name
  pub places : b.places.ghost_name ≡ a.places.ghost_name
  pub text : b.text.ghost_name ≡ a.text.ghost_name
  pub out : b.text.now.bytes.ghost_name ≡ a.text.now.bytes.ghost_name
  pub lent : SameLent a.records.now b.records.now

-- and holds what it held
pub record SameHeld (a b : Run) : Type 0 where
  pub records : b.records.now ≡ a.records.now
  pub places : b.places.now ≡ a.places.now
  pub text : b.text.now ≡ a.text.now

-- n bytes are left for the next line, and its number is small
abbrev pub HasLine : Run → ℕ → Type 0
HasLine run n = Room (progress_of run) n run.text.now.bytes.now

-- a call was made, and its line was laid
abbrev pub RunAnswers : Run → Call → Run → Type 0
RunAnswers a c b =
    Answered (progress_of a) a.records.now.node.now a.records.now.row.now a.places.now c a.text.now.bytes.now
    (progress_of b) b.records.now.node.now b.records.now.row.now b.places.now b.text.now.bytes.now
