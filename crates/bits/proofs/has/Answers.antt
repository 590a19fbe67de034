-- `bits::has` meets its contract. Assumes nothing.
use borrow.Author.Rules.{rules}
use Rattle.bits.specs.Bits.{has}
use Rattle.bits.proofs.has.Goals as goal

pub returns : goal.returns
unfolding has
returns c = search rules
