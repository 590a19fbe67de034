-- `running::lines` meets its contract. Assumes nothing.
use borrow.Author.Rules.{rules}
use Rattle.std.proofs.Common.{◌≡◌, List, ℕ}
use Rattle.records.specs.Records.{Records}
use Rattle.records.specs.Lent.{lent}
use Rattle.progress.specs.declared.Run.{Run}
use Rattle.lines.specs.Streams.{StreamEnds}
use Rattle.lines.proofs.StreamLaws.{run_done}
use Rattle.running.proofs.lines.Goals as goal

-- what was lent holds what the run left in it
left_by : {z z₂ : Records} {places s out places₂ out₂ : List ℕ} {end₂ : ℕ} (r : Run) → z₂ ≡ lent r.records.now → places₂ ≡ r.places.now → out₂ ≡ r.text.now.bytes.now → end₂ ≡ r.text.now.end
    → StreamEnds z places s out 0 (lent r.records.now) r.places.now r.text.now.bytes.now r.text.now.end → StreamEnds z places s out 0 z₂ places₂ out₂ end₂
left_by r e f g h y = rw (e, f, g, h) y

pub returns-clause-ends : goal.returns-clause-ends
returns-clause-ends c = let q = c.requires in
    left_by c.lines.new.run (search rules) (search rules) (search rules) (search rules)
    (rw c.lines.ensures.same.lent.size (run_done q.sound.0 q.sound.1 q.few q.room.1 c.lines.ensures.through))
