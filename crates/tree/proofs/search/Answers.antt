-- `tree::search` meets its contract: no node passed has the tag. Assumes nothing.
use mathlib.Core.Path.{◌≡◌}
use native.Mathlib.Omega.{arith}
use Rattle.basics.proofs.CountLaws.{first_start}
use Rattle.tree.specs.Loops.{version_here}
use Rattle.trees.specs.Trees.{version}
use Rattle.tree.specs.Loops.{version_past}
use Rattle.tree.proofs.search.Goals as goal
use Rattle.tree.proofs.search.Goals.{else-tree-n-eq1-via-else-tree-n-eq1 as outer, else-tree-n-eq1-via-then-tree-n-eq1+else-tree-n as inner}

pub loop-n-init : goal.loop-n-init
loop-n-init c = (omega arith, first_start _)

pub returns-then-tree-n : goal.returns-then-tree-n
returns-then-tree-n c = rw (version_here _ _ _ c.loop-n-test.true c.loop-n.invariant.1 c.if-tree-n-eq1.true c.if-tree-n.true)

pub returns : goal.returns
unfolding version
returns c = let e : c.loop-n.n ≡ 128 = omega arith in
    let h = rw e at c.loop-n.invariant.1 in
    rw h

pub loop-n-preserved : goal.loop-n-preserved
loop-n-preserved c = (omega arith, version_past _ _ _ c.loop-n.invariant.1 (elim c.else-tree-n-eq1.branch [ inner w ↦ λ s g. w.if-tree-n.false g | outer w ↦ λ s g. w.if-tree-n-eq1.false s ]))
