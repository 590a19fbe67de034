-- The tree of a new snapshot of the version at a node. Definitions only. Assumes nothing.
use Rattle.std.specs.Prelude.{cond, ℕ, eqb}
use Rattle.std.proofs.Math.Option.{Option, none, some}
use Rattle.trees.specs.declared.Tree.{Tree}
use Rattle.edits.specs.Edits.{grown, hung}
use Rattle.nodes.specs.Nodes.{empty_node, first_child}

-- node c, if there is one, is hung under m
abbrev pub hung_by : Tree → Option ℕ → ℕ → Tree
hung_by t none m = t
hung_by t (some c) m = hung t c m

-- a new node m under v; node 0's former child goes below it
abbrev pub grown_by : Tree → ℕ → ℕ → Option ℕ → Tree
grown_by t v tag none = t
grown_by t v tag (some m) = cond (eqb v 0) (hung_by (grown t m tag v) (first_child t 0) m) (grown t m tag v)

-- which empty node is taken is free: it is the first
unfoldable pub tree_at : Tree → ℕ → ℕ → Tree
tree_at t v tag = grown_by t v tag (empty_node t)
