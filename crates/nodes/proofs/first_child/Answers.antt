-- `nodes::first_child` meets its contract: no node passed is the child. Assumes nothing.
use mathlib.Core.Path.{◌≡◌, sym, ◌∙◌}
use mathlib.Core.Logic.{◌≢◌}
use native.Mathlib.Omega.{arith}
use Rattle.nodes.specs.Nodes.{first_child, child_start, child_here}
use Rattle.nodes.specs.Nodes.{child_past}
use Rattle.nodes.proofs.first_child.Goals as goal
use Rattle.nodes.proofs.first_child.Goals.{else-tree-n-ne0-via-else-tree-n-ne0 as unused, else-tree-n-ne0-via-then-tree-n-ne0+else-from-p as other}

pub loop-n-init : goal.loop-n-init
loop-n-init c = child_start _ _

pub returns-then-from-p : goal.returns-then-from-p
returns-then-from-p c = let z : c.loop-n.n ≢ 0 = λ e. omega arith in
    rw (child_here _ _ _ c.loop-n.invariant (z, (c.loop-n-test.true, c.if-tree-n-ne0.true), sym c.from.ensures ∙ c.if-from-p.true))

pub returns : goal.returns
unfolding first_child
returns c = let e : c.loop-n.n ≡ 128 = omega arith in
    let h = rw e at c.loop-n.invariant in
    rw h

pub loop-n-preserved : goal.loop-n-preserved
loop-n-preserved c = child_past _ _ _ c.loop-n-test.true c.loop-n.invariant
    (elim c.else-tree-n-ne0.branch [ other w ↦ λ h. w.if-from-p.false (w.from.ensures ∙ h.2) | unused w ↦ λ h. h.1.1 w.if-tree-n-ne0.false ])
