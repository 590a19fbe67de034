-- `renewing::renew` meets its contract: the old row is saved before the new one is written. Assumes nothing.
use borrow.Author.Rules.{rules}
use Rattle.renewing.specs.Laws.{renewed}
use Rattle.renewing.proofs.renew.Goals as goal

pub returns : goal.returns
returns c = search (rules, renewed)
