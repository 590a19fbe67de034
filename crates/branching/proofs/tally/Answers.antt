-- `branching::tally` meets its contract: the children up to position j are counted at their parents. Assumes nothing.
use borrow.Author.Rules.{rules}
use mathlib.Core.Path.{◌∙◌}
use native.Mathlib.Omega.{arith}
use lib.ListN.{length-set}
use Rattle.basics.proofs.CountLaws.{count_most}
use Rattle.branching.specs.Children.{child_at, counted_first, counted_next}
use Rattle.branching.proofs.tally.Goals as goal

pub loop-n-init : goal.loop-n-init
loop-n-init c = let a = c.args in (search rules, counted_first a.nodes.now.tree.now a.nodes.now.used.now)

pub overflow_add-kids : goal.overflow_add-kids
overflow_add-kids c = let t = c.args.nodes.now.tree.now in
    let p = c.parent_of-p.result in
    omega (arith, c.loop-n.invariant.1 p c.parent_of-p.ensures.0, count_most (child_at t c.args.nodes.now.used.now p) c.loop-n.n-index, c.loop-n-test.true, c.args.nodes.now.few)

pub loop-n-preserved : goal.loop-n-preserved
loop-n-preserved c = let a = c.args in
    let v = c.loop-n.invariant in
    let e = c.parent_of-p.ensures in
    (length-set c.loop-n.kids _ _ ∙ v.0, counted_next a.nodes.now.tree.now a.nodes.now.used.now c.loop-n.kids _ _ v.0 e.0 (rw c.from.ensures at e.1) v.1)
