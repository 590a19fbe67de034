-- A run goes on behind a call and its line, or stops behind its last line. Assumes nothing.
use Rattle.std.specs.Prelude.{◌≡◌, true, List, ℕ, ◌+◌}
use Rattle.std.proofs.Common.{ap}
use Rattle.trees.specs.declared.Tree.{Tree}
use Rattle.records.specs.Records.{records_of}
use Rattle.records.specs.Lent.{lent}
use Rattle.records.specs.declared.Records.{Records as Lent}
use Rattle.model.specs.Call.{Call}
use Rattle.text.specs.Text.{line, dash}
use Rattle.laying.specs.Laid.{Lays}
use Rattle.laying.specs.Laws.{lays_as}
use Rattle.progress.specs.declared.Run.{Run}
use Rattle.progress.specs.Replying.{Progress, records_in, onward, stopped, Replied, Answered, Stopped, progress_of, RunAnswers}

-- a run goes on behind a call and its line
pub answered : {run r : Progress} {node row places : List ℕ} {c : Call} {out : List ℕ} {tree : Tree} {end : ℕ} {node' row' places' out' : List ℕ} → r ≡ onward run tree end
    → Replied (records_in run node row) places c run.line out run.end (records_of run.size tree node' row') places' out' end
    → Answered run node row places c out r node' row' places' out'
answered {tree = tree} {end = end} e y = record { tree = tree; end = end; goes = e; replied = y }

-- and stops behind its last line, with the number w
pub stopped_at : {run r : Progress} {number w : ℕ} {out : List ℕ} {end : ℕ} {out' : List ℕ} → r ≡ stopped run end → w ≡ number → Lays out run.end (line run.line w dash) out' end → Stopped run number out r out'
stopped_at {run} {end = end} e f y = record { end = end; goes = e; lays = lays_as (ap (λ (x : ℕ). line run.line x dash) f) y }

-- the run behind a call that left z and the places, and behind its line
pub run_answered : (a b : Run) {z : Lent} {places : List ℕ} {c : Call} → z.size ≡ a.records.now.size → (b.records.now ≡ z) × (b.places.now ≡ places)
    → progress_of b ≡ record { size = z.size; tree = z.tree; end = b.text.now.end; line = a.line + 1; going = true }
    → Replied (lent a.records.now) a.places.now c a.line a.text.now.bytes.now a.text.now.end (records_of a.records.now.size z.tree z.node.now z.row.now) places b.text.now.bytes.now b.text.now.end
    → RunAnswers a c b
run_answered a b e h g y = rw (h.0, h.1, e) (answered (rw (h.0, e) at g) y)
