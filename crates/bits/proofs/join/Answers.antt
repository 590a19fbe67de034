-- `bits::join` meets its contract: the byte stays a byte. Assumes nothing.
use borrow.Author.Rules.{rules}
use Rattle.bits.specs.Laws.{join_fits, join_made}
use Rattle.bits.proofs.join.Goals as goal

pub overflow_add-bits : goal.overflow_add-bits
overflow_add-bits c = record { fits = join_fits c.args.bits.now c.args.k (search rules) c.requires.1 }

pub returns : goal.returns
returns c = join_made c.args.bits.now c.args.k
