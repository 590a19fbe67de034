-- `reaching::others_reach` meets its contract: node by node it is known who meets g. Assumes nothing.
use Rattle.reaching.specs.Reaching.{Reaching}
use Rattle.reaching.proofs.others_reach.Given as goal

abbrev pub invariant-loop-j : goal.invariant-loop-j
invariant-loop-j l = Reaching l.tree l.order l.end l.marks l.v l.g l.r.0 l.reach l.far l.j
