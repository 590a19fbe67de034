-- The tree of a new snapshot, case by case. Assumes nothing.
use Rattle.std.specs.Prelude.{◌≡◌, ◌≢◌, ℕ}
use Rattle.std.proofs.Math.Option.{none, some}
use borrow.Author.Tests.{eq-eqb, ne_eqb}
use Rattle.trees.specs.declared.Tree.{Tree}
use Rattle.edits.specs.Edits.{grown, hung}
use Rattle.nodes.specs.Nodes.{empty_node, first_child}
use Rattle.growing.specs.Growing.{tree_at}

-- the new tree, by the nodes that were found
module _ (t : Tree) (v tag m : ℕ) (e : empty_node t ≡ some m) where
  pub tree_under : v ≢ 0 → tree_at t v tag ≡ grown t m tag v
  unfolding tree_at
  tree_under h = rw (e, ne_eqb v 0 h)

  pub tree_first : v ≡ 0 → first_child t 0 ≡ none → tree_at t v tag ≡ grown t m tag v
  unfolding tree_at
  tree_first h c = rw (e, eq-eqb v 0 h, c)

  pub tree_between : v ≡ 0 → (c : ℕ) → first_child t 0 ≡ some c → tree_at t v tag ≡ hung (grown t m tag v) c m
  unfolding tree_at
  tree_between h c k = rw (e, eq-eqb v 0 h, k)
