-- `nodes::child` meets its contract. Assumes nothing.
use Rattle.basics.specs.Decide.{holds}
use Rattle.nodes.specs.Nodes.{no_child}
use Rattle.nodes.proofs.child.Goals as goal

pub returns-then-childless : goal.returns-then-childless
returns-then-childless c = let a = c.args in
    rw (no_child a.tree.now a.p (holds c.childless.result c.childless.ensures c.if-childless.true))
