-- `pruning::settled` meets its contract. Assumes nothing.
use mathlib.Core.Path.{◌≡◌, sym, ◌∙◌}
use mathlib.Core.Option.{some}
use Rattle.pruning.specs.Laws.{no_ghost, not_one_child, no_child, one_child}
use Rattle.nodes.specs.Nodes.{first_child, child_some}
use Rattle.tree.specs.Rules.{found_at, found_missing}
use Rattle.pruning.proofs.settled.Goals as goal

pub returns-then-tree-x-ne2 : goal.returns-then-tree-x-ne2
returns-then-tree-x-ne2 c = let a = c.args in
    let h = no_ghost a.tree a.x a.node.now c.if-tree-x-ne2.true in
    (sym h.0, sym h.1)

pub returns-then-children-ne1 : goal.returns-then-children-ne1
returns-then-children-ne1 c = let a = c.args in
    let h = not_one_child a.tree a.x a.node.now (λ e. c.if-children-ne1.true (c.children.ensures ∙ e)) in
    (sym h.0, sym h.1)

pub returns-in_default : goal.returns-in_default
returns-in_default c = let a = c.args in
    let h = no_child a.tree a.x a.node.now (found_missing (first_child a.tree a.x) (sym c.in_default.is ∙ c.child.ensures)) in
    (sym h.0, sym h.1)

pub relabel-requires : goal.relabel-requires
relabel-requires c = let known : (let a = c.args in first_child a.tree a.x ≡ some c.in-Some.w) = let a = c.args in
    found_at (first_child a.tree a.x) _ (sym c.in-Some.is ∙ c.child.ensures) in
    (child_some _ _ _ (known)).1.0

pub spliced-requires : goal.spliced-requires
spliced-requires c = let known : (let a = c.args in first_child a.tree a.x ≡ some c.in-Some.w) = let a = c.args in
    found_at (first_child a.tree a.x) _ (sym c.in-Some.is ∙ c.child.ensures) in
    (c.requires, (child_some _ _ _ (known)).1.0)

pub returns : goal.returns
returns c = let known : (let a = c.args in first_child a.tree a.x ≡ some c.in-Some.w) = let a = c.args in
    found_at (first_child a.tree a.x) _ (sym c.in-Some.is ∙ c.child.ensures) in
    let a = c.args in
    let h = one_child a.tree a.x a.node.now c.if-tree-x-ne2.false (sym c.children.ensures ∙ c.if-children-ne1.false) _ (known) in
    (c.spliced.ensures ∙ sym h.0, c.relabel.ensures ∙ sym h.1)
