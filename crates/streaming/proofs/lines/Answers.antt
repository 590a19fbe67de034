-- `streaming::lines` meets its contract: a turn passes one command, and what is to go is less. Assumes nothing.
use Rattle.std.proofs.Common.{rules, ℕ, List, ap, ◌∙◌, Bor}
use Rattle.lines.proofs.GoingLaws.{going_start, going_next, going_end}
use Rattle.streaming.proofs.lines.Goals as goal

pub loop-run-init : goal.loop-run-init
loop-run-init c = record {
  begins = c.requires;
  reads = ap (λ (x : Bor (List ℕ)). x.now) c.new-reader.ensures.0;
  same = search rules;
  goes = rw c.new-reader.ensures.1 (going_start _ _ _ _ _ _ c.requires);
}

pub loop-run-preserved : goal.loop-run-preserved
loop-run-preserved c =
    let v = c.loop-run.invariant in
    record {
      begins = v.begins;
      reads = ap (λ (x : Bor (List ℕ)). x.now) c.moved-reader.ensures.0 ∙ v.reads;
      same = search rules;
      goes = rw c.moved-reader.ensures.1 (going_next _ _ _ _ _ _ c.loop-run-test.true v.goes (rw v.reads at c.serve.ensures.turned));
    }

pub returns-clause-through : goal.returns-clause-through
returns-clause-through c = going_end _ _ _ _ _ _ c.loop-run.reader.at c.loop-run-test.false c.loop-run.invariant.goes
