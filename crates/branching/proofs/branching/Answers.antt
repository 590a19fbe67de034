-- `branching::branching` meets its contract. Assumes nothing.
use native.Mathlib.Omega.{arith}
use Rattle.listing.specs.InUse.{listed_in}
use Rattle.branching.specs.Children.{branch_root, branch_ghost, branch_all}
use Rattle.basics.specs.Decide.{fails}
use Rattle.branching.proofs.branching.Goals as goal

pub returns-then-kids-gt1 : goal.returns-then-kids-gt1
returns-then-kids-gt1 c = λ b. omega (arith, c.if-kids-gt1.true, branch_root _ _ (listed_in c.args.nodes.now) c.tally-kids.result c.tally-kids.ensures b)

pub returns-then-not-forks : goal.returns-then-not-forks
returns-then-not-forks c = λ b.
    let (z, l, u) = c.args.nodes.now.each _ c.loop-n-test.true in
    fails c.forks.result c.forks.ensures c.if-not-forks.true (rw c.from.ensures (branch_ghost _ _ (listed_in c.args.nodes.now) c.tally-kids.result c.tally-kids.ensures b _ l))

pub returns : goal.returns
returns c = branch_all _ _ (listed_in c.args.nodes.now) c.tally-kids.result c.tally-kids.ensures c.requires.0 (omega (arith, c.if-kids-gt1.false)) (λ i b. c.loop-n.invariant i (omega (arith, c.loop-n-test.false)))
