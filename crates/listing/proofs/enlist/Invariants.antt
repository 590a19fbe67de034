-- `listing::enlist` meets its contract: node by node the list grows. Assumes nothing.
use Rattle.listing.specs.Listed.{Listing}
use Rattle.listing.proofs.enlist.Given as goal

abbrev pub invariant-loop-n : goal.invariant-loop-n
invariant-loop-n l = Listing l.state l.out l.m l.n
