-- `nodes::children` meets its contract: the children below n are counted. Assumes nothing.
use mathlib.Core.Path.{◌≡◌, sym}
use native.Mathlib.Omega.{arith}
use Rattle.nodes.specs.Nodes.{children_start}
use Rattle.trees.specs.Trees.{children}
use mathlib.Core.Path.{◌∙◌}
use mathlib.Core.Logic.{◌≢◌}
use Rattle.nodes.specs.Nodes.{children_more}
use Rattle.nodes.specs.Nodes.{children_same}
use Rattle.nodes.proofs.children.Goals as goal
use Rattle.nodes.proofs.children.Goals.{then-tree-n-ne0+then-from-p, else-tree-n-ne0, else-tree-n-ne0-via-else-tree-n-ne0 as unused, else-tree-n-ne0-via-then-tree-n-ne0+else-from-p as other}

pub loop-n-init : goal.loop-n-init
loop-n-init c = (omega arith, sym (children_start _ _))

pub returns : goal.returns
unfolding children
returns c = let e : c.loop-n.n ≡ 128 = omega arith in
    rw e at c.loop-n.invariant.1

pub loop-n-preserved : goal.loop-n-preserved
loop-n-preserved c = let v = c.loop-n.invariant in
    let t = c.args.tree.now in
    let p = c.args.p in
    let n = c.loop-n.n in
    let z : n ≢ 0 = λ e. omega arith in
    elim c.if-tree-n-ne0.branch [
      | then-tree-n-ne0+then-from-p w ↦ (omega (arith, w.sum-is), omega (arith, w.sum-is, v.1, children_more t p n (z, (c.loop-n-test.true, w.if-tree-n-ne0.true), sym w.from.ensures ∙ w.if-from-p.true)))
      | else-tree-n-ne0 w ↦ let same = children_same t p n c.loop-n-test.true (elim w.else-tree-n-ne0.branch [ other x ↦ λ h. x.if-from-p.false (x.from.ensures ∙ h.2) | unused x ↦ λ h. h.1.1 x.if-tree-n-ne0.false ]) in
          (omega (arith, w.sum-is), omega (arith, w.sum-is, v.1, same))
    ]
