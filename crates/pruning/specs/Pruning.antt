-- What is left of a tree in which a node has become a ghost. Definitions only. Assumes nothing.
use Rattle.std.specs.Prelude.{Bool, ◌&&◌, cond, List, ℕ, eqb}
use Rattle.std.proofs.Math.Option.{Option, none, some}
use Rattle.basics.specs.Decide.{at}
use Rattle.trees.specs.declared.Tree.{Tree}
use Rattle.trees.specs.Trees.{up, children}
use Rattle.nodes.specs.Nodes.{first_child}
use Rattle.removal.specs.Removal.{emptied, spliced, relabelled}

-- Node v, a ghost: without a child it is taken away, and its parent may be left with one child; else it may have one itself

abbrev pub pruned_tree' : Tree → ℕ → Option ℕ → Tree
pruned_tree' t v none = emptied t v
pruned_tree' t v (some c) = t

abbrev pub pruned_node' : Tree → ℕ → Option ℕ → ℕ
pruned_node' t v none = up t v
pruned_node' t v (some c) = v

unfoldable pub pruned_tree : Tree → ℕ → Tree
pruned_tree t v = pruned_tree' t v (first_child t v)

unfoldable pub pruned_node : Tree → ℕ → ℕ
pruned_node t v = pruned_node' t v (first_child t v)

-- Node x: a ghost with one child is taken out, and its entries become the child's

unfoldable pub thin : Tree → ℕ → Bool
thin t x = eqb (at t.state x) 2 && eqb (children t x) 1

abbrev pub spliced_by : Tree → ℕ → Option ℕ → Tree
spliced_by t x none = t
spliced_by t x (some w) = spliced t x w

abbrev pub relabelled_by : ℕ → Option ℕ → List ℕ → List ℕ
relabelled_by x none node = node
relabelled_by x (some w) node = relabelled x w node

unfoldable pub settled_tree : Tree → ℕ → Tree
settled_tree t x = cond (thin t x) (spliced_by t x (first_child t x)) t

unfoldable pub settled_node : Tree → ℕ → List ℕ → List ℕ
settled_node t x node = cond (thin t x) (relabelled_by x (first_child t x) node) node
