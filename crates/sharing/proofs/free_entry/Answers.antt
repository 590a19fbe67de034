-- `sharing::free_entry` meets its contract: no entry passed is free. Assumes nothing.
use Rattle.sharing.specs.Laws.{pass_free, pass_next, pass_all}
use Rattle.sharing.proofs.free_entry.Goals as goal

pub returns-then-node-i-eq0 : goal.returns-then-node-i-eq0
returns-then-node-i-eq0 c = rw (pass_free _ _ c.loop-i-test.true c.loop-i.invariant c.if-node-i-eq0.true)

pub loop-i-preserved : goal.loop-i-preserved
loop-i-preserved c = pass_next _ _ c.loop-i-test.true c.loop-i.invariant c.if-node-i-eq0.false

pub returns : goal.returns
returns c = rw (pass_all _ _ c.loop-i-test.false c.loop-i.invariant)
