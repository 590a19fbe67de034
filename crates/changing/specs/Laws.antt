-- A call that changes the store, with its line, whose number is the one that the call answered. Assumes nothing.
use Rattle.std.specs.Prelude.{◌≡◌, List, [], ℕ, ◌+◌, ◌-◌, take, drop}
use Rattle.std.proofs.Common.{sym, arith}
use Rattle.trees.specs.declared.Tree.{Tree}
use Rattle.records.specs.Records.{Records, records_of}
use Rattle.model.specs.Call.{snapshot, write, delete, one}
use Rattle.takes.specs.Taking.{SnapshotEnds}
use Rattle.owning.specs.Owning.{Held}
use Rattle.writes.specs.Writing.{WriteEnds}
use Rattle.deletes.specs.Deleting.{Left, DeleteEnds}
use Rattle.theorem.specs.Trace.{snapshot_ends, write_ends, delete_ends}
use Rattle.answers.specs.Answers.{handed}
use Rattle.text.specs.Laws.{shown_plain}
use Rattle.text.specs.Text.{line, dash}
use Rattle.laying.specs.Laid.{Lays}
use Rattle.laying.specs.Laws.{lays_as}
use Rattle.commands.specs.Format.{row_at}
use Rattle.progress.specs.Replying.{Replied}

module _ {k from to : ℕ} {out out' : List ℕ} where
  -- of the number that a call answered, as its line has it; a snapshot is taken of the records as they are seen
  pub snapshot_replied : {y z : Records} {places : List ℕ} {source new n : ℕ} {t u : Tree} → y ≡ z → t ≡ u → SnapshotEnds y source new n t → Lays out from (line k n dash) out' to
      → Replied z places (one (snapshot source new)) k out from (records_of z.size u z.node z.row) places out' to
  snapshot_replied {n = n} e f s l =
      rw (← f) (record { hands = handed n [] []; ends = snapshot_ends (rw e at s); lays = lays_as (rw (shown_plain n)) l; short = rw (shown_plain n) (omega arith) })

  pub delete_replied : {z : Records} {places : List ℕ} {tag n : ℕ} {got : Left} → DeleteEnds z tag n got → Lays out from (line k n dash) out' to
      → Replied z places (one (delete tag)) k out from (records_of z.size got.tree got.node got.row) places out' to
  delete_replied {n = n} s l = record { hands = handed n [] []; ends = delete_ends s; lays = lays_as (rw (shown_plain n)) l; short = rw (shown_plain n) (omega arith) }

  -- a write, of row q and the bytes of the stream
  pub write_replied : {z : Records} {places : List ℕ} {tag q x n : ℕ} {bs cs : List ℕ} {got : Held} → x ≡ q → bs ≡ cs → WriteEnds z places tag x bs n got → Lays out from (line k n dash) out' to
      → Replied z places (one (write tag q cs)) k out from (records_of z.size got.tree got.node got.row) got.places out' to
  write_replied {n = n} h b s l =
      rw (sym h, sym b) (record { hands = handed n [] []; ends = write_ends s; lays = lays_as (rw (shown_plain n)) l; short = rw (shown_plain n) (omega arith) })

-- the part of the stream that a write brings
pub row_part : (width : ℕ) (s : List ℕ) (p : ℕ) → take (((p + 5) + width) - (p + 5)) (drop (p + 5) s) ≡ row_at width s p
unfolding row_at
row_part width s p = let e : ((p + 5) + width) - (p + 5) ≡ width = omega arith in rw e
