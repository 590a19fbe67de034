-- `linking::reaches` meets its contract: the climb either meets a known node or is longer than any path to node 0. Assumes nothing.
use Rattle.tree.specs.Loops.{Climbing}
use Rattle.linking.proofs.reaches.Given as goal

abbrev pub invariant-loop-k : goal.invariant-loop-k
invariant-loop-k l = Climbing l.tree l.n l.node l.k
