-- `growing::with_snapshot` meets its contract. Assumes nothing.
use mathlib.Core.Path.{sym, ◌∙◌}
use native.Mathlib.Omega.{arith}
use Rattle.growing.specs.Laws.{tree_under, tree_first, tree_between}
use Rattle.nodes.specs.Nodes.{first_child, empty_of, child_some}
use Rattle.tree.specs.Rules.{found_at, found_missing}
use Rattle.growing.proofs.with_snapshot.Goals as goal

pub grown-next-requires : goal.grown-next-requires
grown-next-requires c = ((empty_of _ _ c.empty_node-m.ensures).0, omega (arith, c.requires.0))

pub returns-then-v-ne0 : goal.returns-then-v-ne0
returns-then-v-ne0 c = c.grown-next.ensures ∙ sym (tree_under _ _ _ _ c.empty_node-m.ensures c.if-v-ne0.true)

pub returns-in_default : goal.returns-in_default
returns-in_default c = c.grown-next.ensures ∙ sym (tree_first _ _ _ _ c.empty_node-m.ensures c.if-v-ne0.false (found_missing (first_child c.args.tree 0) (sym c.in_default.is ∙ c.child.ensures)))

pub hung-requires : goal.hung-requires
hung-requires c = ((child_some _ _ _ (found_at (first_child c.args.tree 0) _ (sym c.in-Some.is ∙ c.child.ensures))).1.0, omega (arith, (empty_of _ _ c.empty_node-m.ensures).0))

pub returns : goal.returns
returns c = c.hung.ensures ∙ rw c.grown-next.ensures (sym (tree_between _ _ _ _ c.empty_node-m.ensures c.if-v-ne0.false _ (found_at (first_child c.args.tree 0) _ (sym c.in-Some.is ∙ c.child.ensures))))
