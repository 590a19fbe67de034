-- `reading::used` meets its contract: the exceptions passed are counted. Assumes nothing.
use mathlib.Core.Path.{◌≡◌}
use native.Mathlib.Omega.{arith}
use lib.ListN.{length}
use Rattle.trees.specs.Trees.{entries_of, taken, used}
use Rattle.basics.proofs.CountLaws.{count_none}
use Rattle.reading.specs.Lookup.{taken_yes, taken_no}
use Rattle.reading.proofs.used.Goals as goal
use Rattle.reading.proofs.used.Goals.{else-n-ne0, then-n-ne0}

pub loop-n-init : goal.loop-n-init
loop-n-init c = let a = c.args in (omega arith, omega (arith, count_none (taken (entries_of a.table.now))))

pub loop-n-preserved : goal.loop-n-preserved
loop-n-preserved c = let v = c.loop-n.invariant in
    let a = c.args in
    let e = entries_of a.table.now in
    let i = c.loop-n.n-index in (
      elim c.if-n-ne0.branch [ then-n-ne0 w ↦ omega arith | else-n-ne0 w ↦ omega arith ],
      elim c.if-n-ne0.branch [ then-n-ne0 w ↦ omega (arith, w.sum-is, v.1, taken_yes e i w.if-n-ne0.true) | else-n-ne0 w ↦ omega (arith, w.sum-is, v.1, taken_no e i w.if-n-ne0.false) ],
    )

pub returns : goal.returns
unfolding used
returns c = let e : c.loop-n.n-index ≡ length c.args.table.now.node.now = omega arith in
    rw e at c.loop-n.invariant.1
