-- `pruning::relabel` meets its contract. Assumes nothing.
use native.Mathlib.Omega.{arith}
use Rattle.removal.proofs.Lists.{mapping_start, mapping_all}
use Rattle.removal.specs.Removal.{relabelled}
use Rattle.pruning.proofs.relabel.Goals as goal

pub returns : goal.returns
unfolding relabelled
returns c = mapping_all _ _ _ _ (omega (arith, c.loop-n-test.false, c.loop-n.invariant.size)) c.loop-n.invariant
