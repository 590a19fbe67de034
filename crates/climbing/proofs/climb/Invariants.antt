-- `climbing::climb` meets its contract: what the node reads is what the node above it reads. Assumes nothing.
use Rattle.notes.proofs.Rising.{Rising}
use Rattle.climbing.proofs.climb.Given as goal

abbrev pub invariant-loop-k : goal.invariant-loop-k
invariant-loop-k l = Rising l.tree l.notes l.n l.r.0 l.m l.k
