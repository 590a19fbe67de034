-- `tagging::differs` meets its contract. Assumes nothing.
use Prim.Native.Nat.{ℕ, ◌<◌}
use mathlib.Core.Logic.{◌≢◌}
use Rattle.basics.specs.Decide.{at}
use Rattle.tagging.proofs.differs.Given as goal

abbrev pub invariant-loop-i : goal.invariant-loop-i
invariant-loop-i l = (k : ℕ) → k < l.i → at l.nodes.tree.now.tag (at l.nodes.used.now k) ≢ at l.nodes.tree.now.tag (at l.nodes.used.now l.j)
