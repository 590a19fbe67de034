-- `trimming::free_own` meets its contract: the entries below i are done, the others as they were. Assumes nothing.
use native.Mathlib.Omega.{arith}
use Rattle.removal.proofs.Lists.{mapping_all}
use Rattle.trimming.specs.Trimmed.{own_freed}
use Rattle.trimming.proofs.free_own.Goals as goal

pub returns-clause-freed : goal.returns-clause-freed
unfolding own_freed
returns-clause-freed c = let (s, k, m, n) = c.loop-i.invariant in
    (mapping_all _ _ _ _ (omega (arith, c.loop-i-test.false, m.size)) m, mapping_all _ _ _ _ (omega (arith, c.loop-i-test.false, m.size, n.size, c.requires)) n)
