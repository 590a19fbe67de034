-- `listing::list` meets its contract: stretch by stretch the list grows. Assumes nothing.
use Prim.Native.Nat.{◌*◌}
use Rattle.listing.specs.Listed.{Listing}
use Rattle.listing.proofs.list.Given as goal

abbrev pub invariant-loop-j : goal.invariant-loop-j
invariant-loop-j l = Listing l.state l.out l.k (16 * l.j)
