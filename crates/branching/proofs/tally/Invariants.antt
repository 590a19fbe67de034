-- `branching::tally` meets its contract: the children up to position j are counted at their parents. Assumes nothing.
use mathlib.Core.Path.{◌≡◌}
use lib.ListN.{length}
use Rattle.branching.specs.Children.{Counted}
use Rattle.branching.proofs.tally.Given as goal

abbrev pub invariant-loop-n : goal.invariant-loop-n
invariant-loop-n l = (length l.kids ≡ 128) × Counted l.nodes.tree.now l.nodes.used.now l.kids l.n-index
