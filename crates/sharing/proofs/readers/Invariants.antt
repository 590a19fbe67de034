-- `sharing::readers` meets its contract: stretch by stretch. Assumes nothing.
use Prim.Native.Nat.{◌*◌}
use Rattle.sharing.specs.Laws.{Counted}
use Rattle.sharing.proofs.readers.Given as goal

abbrev pub invariant-loop-k : goal.invariant-loop-k
invariant-loop-k l = Counted l.tree l.notes l.r.0 l.p.0 (16 * l.k) l.sum
