-- The loop over a stream: what was laid is the text up to a position, and what is left of the text is that from there on. Definitions only. Assumes nothing.
use Rattle.std.specs.Prelude.{◌≡◌, true, cond, List, ◌++◌, ℕ, suc, ◌+◌, ◌-◌, ◌*◌, ◌≤◌, length}
use Rattle.records.specs.Records.{Records}
use Rattle.model.specs.Model.{Model, final}
use Rattle.steps.specs.Calls.{Runs}
use Rattle.theorem.specs.Trace.{state, left_by}
use Rattle.laying.specs.Laid.{Lays}
use Rattle.commands.specs.Format.{calls_from, calls}
use Rattle.lines.specs.Lines.{text_from}
use Rattle.lines.specs.Output.{output, last_model, RanAll}
use Rattle.progress.specs.declared.Run.{Run}
use Rattle.progress.specs.Replying.{Progress, line_room, records_in, progress_of}

-- a run at its start, with room for every line
pub record Begins (width : ℕ) (first : Progress) (s out : List ℕ) : Type 0 where
  pub sized : first.size.width ≡ width
  pub narrow : width ≤ 1024
  pub start : (first.end ≡ 0) × (first.line ≡ 1) × (first.going ≡ true)
  pub few : length s ≤ 4096
  pub room : line_room width * length s ≤ length out

-- the whole stream, for every model that agreed at the start
pub record Through (first : Progress) (node row places s out : List ℕ) (r : Progress) (node' row' places' out' : List ℕ) : Type 0 where
  pub sized : r.size ≡ first.size
  pub goes : (m : Model) → Runs (records_in first node row) places m → RanAll (records_in first node row) places s out (records_in r node' row') places' out' r.end m

-- the same of a run as it is lent
abbrev pub RunBegins : ℕ → Run → List ℕ → Type 0
RunBegins width run s = Begins width (progress_of run) s run.text.now.bytes.now

abbrev pub RunThrough : Run → List ℕ → Run → Type 0
RunThrough a s b =
    Through (progress_of a) a.records.now.node.now a.records.now.row.now a.places.now s a.text.now.bytes.now
    (progress_of b) b.records.now.node.now b.records.now.row.now b.places.now b.text.now.bytes.now

-- what a run has yet to do: it ends, or a command is passed
abbrev pub to_go : List ℕ → Progress → ℕ → ℕ
to_go s run at = cond run.going (suc (length s - at)) 0

module _ (first : Progress) (node row places s out : List ℕ) where
  abbrev z : Records
  z = records_in first node row

  abbrev w : ℕ
  w = first.size.width

  -- for a model that agreed at the start
  pub record Gone (run : Progress) (nodeₚ rowₚ placesₚ outₚ : List ℕ) (p : ℕ) (m : Model) : Type 0 where
    pub most : ℕ
    pub enough : length s ≤ p + most
    pub model : Model
    pub runs : Runs (records_in run nodeₚ rowₚ) placesₚ model
    pub text : List ℕ
    pub lays : Lays out 0 text outₚ run.end
    pub says : output first.size s m ≡ text ++ text_from first.size s most run.line model p
    pub lasts : last_model first.size s m ≡ final first.size model (calls_from w s most p)
    pub leaves : left_by (state z places) (calls w s) ≡ left_by (state (records_in run nodeₚ rowₚ) placesₚ) (calls_from w s most p)

  pub record Going (run : Progress) (nodeₚ rowₚ placesₚ outₚ : List ℕ) (p : ℕ) : Type 0 where
    pub room : run.end ≤ line_room w * p
    pub few : run.line ≤ p + 1
    pub inside : p ≤ length s
    pub long : length outₚ ≡ length out
    pub same : run.size ≡ first.size
    pub goes : (m : Model) → Runs z places m → Gone run nodeₚ rowₚ placesₚ outₚ p m
