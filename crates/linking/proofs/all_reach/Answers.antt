-- `linking::all_reach` meets its contract: node by node of the list. Assumes nothing.
use native.Mathlib.Omega.{arith}
use borrow.Author.Count.{below_more}
use Rattle.listing.specs.InUse.{listed_in}
use Rattle.trees.specs.Trees.{up, Reaches}
use Rattle.listing.specs.Listed.{listed_all}
use Rattle.linking.specs.Known.{known_first}
use Rattle.basics.specs.Decide.{holds}
use Rattle.linking.proofs.all_reach.Goals as goal

pub loop-n-init : goal.loop-n-init
loop-n-init c = (λ i l. absurd (omega arith), known_first _)

pub loop-n-preserved : goal.loop-n-preserved
loop-n-preserved c = (below_more _ _ c.loop-n.invariant.0 (rw (← c.from-n.ensures) (holds c.reaches.result c.reaches.ensures c.if-not-reaches.false)), c.mark.ensures.0)

pub returns : goal.returns
returns c = λ n z u.
    let v = c.loop-n.invariant in
    listed_all (listed_in c.args.nodes.now) (λ n. Reaches (up c.args.nodes.now.tree.now) n) (λ i b. v.0 i (omega (arith, c.loop-n-test.false))) n z u.0 u.1
