-- `sharing::readers_in` meets its contract: of those passed, all that read the row from the place are counted. Assumes nothing.
use Rattle.sharing.specs.Laws.{Counted}
use Rattle.sharing.proofs.readers_in.Given as goal

abbrev pub invariant-loop-n : goal.invariant-loop-n
invariant-loop-n l = Counted l.tree l.notes l.r.0 l.p.0 l.n l.sum
