-- `printing::print` meets its contract. Assumes nothing.
use borrow.Author.Rules.{rules}
use Rattle.lines.proofs.PrintLaws.{printed_long, printed_short}
use Rattle.printing.proofs.print.Goals as goal

pub returns-then-stream-gt4096 : goal.returns-then-stream-gt4096
returns-then-stream-gt4096 c = printed_long _ c.if-stream-gt4096.true (search rules)

pub returns : goal.returns
returns c = printed_short _ c.if-stream-gt4096.false c.serve.ensures
