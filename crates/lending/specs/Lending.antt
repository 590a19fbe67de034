-- The tree with one node changed. Definitions only. Assumes nothing.
use Rattle.std.specs.Prelude.{set}
use Rattle.trees.specs.declared.Tree.{Tree}
use Rattle.trees.specs.Trees.{tree_of}
use Rattle.lending.specs.declared.Node.{Node}

-- a node has the state, tag and parent that it is to hold
abbrev pub filled : Tree → Node → Tree
filled t n = tree_of (set t.state n.number n.state) (set t.tag n.number n.tag) (set t.parent n.number n.parent)
