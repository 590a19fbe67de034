-- `changing::write` meets its contract. Assumes nothing.
use Rattle.progress.specs.Laws.{run_answered}
use Rattle.changing.specs.Laws.{write_replied, row_part}
use Rattle.changing.proofs.write.Goals as goal

pub returns-clause-answers : goal.returns-clause-answers
returns-clause-answers c = run_answered c.args.run.now c.reply.new.run c.write-written.ensures.same.size c.reply.ensures.held c.reply.ensures.goes (write_replied c.from.ensures (row_part _ _ _) c.write-written.ensures.ends c.reply.ensures.lays)
