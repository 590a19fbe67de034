-- `streaming::lines` meets its contract: what a turn keeps is `Going`. Assumes nothing.
use Rattle.std.proofs.Common.{◌≡◌}
use Rattle.progress.specs.Replying.{progress_of, SameRun}
use Rattle.lines.specs.Turns.{reached}
use Rattle.lines.specs.Loop.{RunBegins, Going, to_go}
use Rattle.streaming.proofs.lines.Given as goal

abbrev pub invariant-loop-run : goal.invariant-loop-run
invariant-loop-run l = let a = l.fn.run in let b = l.run in record {
  begins : RunBegins l.width a l.stream;
  reads : l.reader.stream.now ≡ l.stream;
  same : SameRun a b;
  goes : Going (progress_of a) a.records.now.node.now a.records.now.row.now a.places.now l.stream a.text.now.bytes.now
      (progress_of b) b.records.now.node.now b.records.now.row.now b.places.now b.text.now.bytes.now (reached l.stream (progress_of b) l.reader.at);
}

abbrev pub decreases-loop-run : goal.decreases-loop-run
decreases-loop-run l = to_go l.stream (progress_of l.run) l.reader.at
