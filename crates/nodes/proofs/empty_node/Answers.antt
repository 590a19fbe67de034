-- `nodes::empty_node` meets its contract: the nodes passed are in use, so one is left. Assumes nothing.
use mathlib.Core.Path.{◌≡◌}
use native.Mathlib.Omega.{arith}
use Rattle.nodes.specs.Nodes.{passing_start, passing_next, passing_stop, passing_over}
use Rattle.nodes.proofs.empty_node.Goals as goal

pub loop-n-init : goal.loop-n-init
loop-n-init c = passing_start _

pub returns-then-tree-n-eq0 : goal.returns-then-tree-n-eq0
returns-then-tree-n-eq0 c = passing_stop _ _ c.loop-n-test.true c.loop-n.invariant c.if-tree-n-eq0.true

pub loop-n-preserved : goal.loop-n-preserved
loop-n-preserved c = passing_next _ _ c.loop-n-test.true c.loop-n.invariant c.if-tree-n-eq0.false

pub returns : goal.returns
returns c = let e : c.loop-n.n ≡ 128 = omega (arith, c.loop-n.invariant.most) in
    absurd (passing_over _ c.requires (rw e at c.loop-n.invariant))
