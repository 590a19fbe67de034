-- `tree::snapshots` meets its contract: the snapshots below n are counted. Assumes nothing.
use mathlib.Core.Path.{◌≡◌, sym}
use native.Mathlib.Omega.{arith}
use Rattle.tree.specs.Loops.{snapshots_first}
use Rattle.trees.specs.Trees.{snapshots}
use Rattle.tree.specs.Loops.{snapshot_past}
use Rattle.tree.specs.Nodes.{snapshot_yes}
use Rattle.trees.specs.Trees.{is_snapshot}
use Rattle.basics.proofs.CountLaws.{count_yes}
use Rattle.tree.proofs.snapshots.Goals as goal
use Rattle.tree.proofs.snapshots.Goals.{else-tree-n-eq1, then-tree-n-eq1}

pub loop-n-init : goal.loop-n-init
loop-n-init c = (omega arith, omega arith, omega arith, sym (snapshots_first _))

pub returns : goal.returns
unfolding snapshots
returns c = let e : c.loop-n.n ≡ 128 = omega arith in
    rw e at c.loop-n.invariant.3

pub loop-n-preserved : goal.loop-n-preserved
loop-n-preserved c = let v = c.loop-n.invariant in
    let a = c.args in
    let t = a.tree.now in
    let n = c.loop-n.n in (
      omega arith,
      omega arith,
      elim c.if-tree-n-eq1.branch [ then-tree-n-eq1 w ↦ omega arith | else-tree-n-eq1 w ↦ omega arith ],
      elim c.if-tree-n-eq1.branch [ then-tree-n-eq1 w ↦ omega (arith, w.alive-is, v.3, count_yes (is_snapshot t) n (snapshot_yes t n ((λ e. omega (arith, v.0)), (c.loop-n-test.true, w.if-tree-n-eq1.true)))) | else-tree-n-eq1 w ↦ omega (arith, w.alive-is, v.3, snapshot_past t n w.if-tree-n-eq1.false) ],
    )
