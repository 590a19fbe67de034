-- `reaching::alone` meets its contract: whatever the guess, the nodes in order tell, or all are asked. Assumes nothing.
use native.Mathlib.Omega.{arith}
use Rattle.asking.specs.Laws.{childless_alone}
use Rattle.reaching.proofs.alone.Goals as goal

pub returns-then-removal : goal.returns-then-removal
returns-then-removal c = let p = c.requires in
    rw c.if-g-removal.true (childless_alone _ _ _ _ p.0.linked (omega (arith, c.if-g-eq0.false, c.if-g-removal.true)) (c.args.removal.now.childless c.if-removal.true))
