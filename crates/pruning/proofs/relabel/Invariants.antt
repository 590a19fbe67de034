-- `pruning::relabel` meets its contract. Assumes nothing.
use Prim.Native.Nat.{◌-◌}
use lib.ListN.{length}
use Rattle.pruning.specs.Laws.{label}
use Rattle.removal.proofs.Lists.{Mapping}
use Rattle.pruning.proofs.relabel.Given as goal

abbrev pub invariant-loop-n : goal.invariant-loop-n
invariant-loop-n l = Mapping (label l.x l.w) l.initial.node l.node l.n-index
