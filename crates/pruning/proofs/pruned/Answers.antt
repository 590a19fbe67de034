-- `pruning::pruned` meets its contract. Assumes nothing.
use mathlib.Core.Path.{sym, ◌∙◌}
use Rattle.pruning.specs.Laws.{leaf_tree, leaf_node, parent_tree, parent_node}
use Rattle.nodes.specs.Nodes.{first_child}
use Rattle.tree.specs.Rules.{found_at, found_missing}
use Rattle.pruning.proofs.pruned.Goals as goal

pub returns-in-Some : goal.returns-in-Some
returns-in-Some c = let a = c.args in
    let e = found_at (first_child a.tree a.v) _ (sym c.in-Some.is ∙ c.child.ensures) in
    (sym (parent_tree _ _ _ e), sym (parent_node _ _ _ e))

pub returns : goal.returns
returns c = let a = c.args in
    let e = found_missing (first_child a.tree a.v) (sym c.in_default.is ∙ c.child.ensures) in
    (c.emptied.ensures ∙ sym (leaf_tree a.tree a.v e), c.from-above.ensures ∙ sym (leaf_node a.tree a.v e))
