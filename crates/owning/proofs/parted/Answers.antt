-- `owning::parted` meets its contract. Assumes nothing.
use mathlib.Core.Path.{sym, ◌∙◌}
use Rattle.owning.specs.Laws.{leaf_tree, leaf_node, parent_tree, parent_node}
use Rattle.nodes.specs.Nodes.{empty_of, child_some}
use Rattle.tree.specs.Rules.{found_at, found_missing}
use Rattle.owning.proofs.parted.Goals as goal

pub returns-in_default : goal.returns-in_default
returns-in_default c = let e = found_missing _ c.in_default.ensures in
    (sym (leaf_tree _ _ e), sym (leaf_node _ _ e))

pub empty_node-m-requires : goal.empty_node-m-requires
empty_node-m-requires c = c.requires.1 _ (child_some _ _ _ (found_at _ _ c.in-Some.ensures))

pub split-requires : goal.split-requires
split-requires c = (c.requires.0, (empty_of _ _ c.empty_node-m.ensures).0)

pub returns : goal.returns
returns c = let parent = found_at _ _ c.in-Some.ensures in
    (c.split.ensures ∙ sym (parent_tree _ _ _ _ parent c.empty_node-m.ensures), sym (parent_node _ _ _ _ parent c.empty_node-m.ensures))
