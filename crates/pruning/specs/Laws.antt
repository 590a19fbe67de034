-- The parts of a delete by their cases: a leaf taken away, a node with one child taken out, labels changed one by one. Assumes nothing.
use Rattle.std.specs.Prelude.{◌≡◌, refl, ◌≢◌, Bool, cond, List, ℕ, eqb}
use Rattle.std.proofs.Math.Bool.{true, false}
use Rattle.std.proofs.Math.Option.{none, some}
use borrow.Author.Tests.{eq-eqb, ne_eqb, eqb-true}
use Rattle.basics.specs.Decide.{at, and_no}
use Rattle.trees.specs.declared.Tree.{Tree}
use Rattle.trees.specs.Trees.{up, children}
use Rattle.nodes.specs.Nodes.{first_child}
use Rattle.removal.specs.Removal.{emptied, spliced, relabelled}
use Rattle.pruning.specs.Pruning.{pruned_tree, pruned_node, thin, settled_tree, settled_node}

-- what a label becomes
abbrev pub label : ℕ → ℕ → ℕ → ℕ → ℕ
label x w i n = cond (eqb n x) w n

pub label_yes : (x w i n : ℕ) → n ≡ x → w ≡ label x w i n
label_yes x w i n e = rw (eq-eqb n x e)

pub label_no : (x w i n : ℕ) → n ≢ x → n ≡ label x w i n
label_no x w i n e = rw (ne_eqb n x e)

module _ (t : Tree) (v : ℕ) where
  pub leaf_tree : first_child t v ≡ none → pruned_tree t v ≡ emptied t v
  unfolding pruned_tree
  leaf_tree e = rw e

  pub leaf_node : first_child t v ≡ none → pruned_node t v ≡ up t v
  unfolding pruned_node
  leaf_node e = rw e

  pub parent_tree : (c : ℕ) → first_child t v ≡ some c → pruned_tree t v ≡ t
  unfolding pruned_tree
  parent_tree c e = rw e

  pub parent_node : (c : ℕ) → first_child t v ≡ some c → pruned_node t v ≡ v
  unfolding pruned_node
  parent_node c e = rw e

module _ (t : Tree) (x : ℕ) (node : List ℕ) where
  not_thin : thin t x ≡ false → (settled_tree t x ≡ t) × (settled_node t x node ≡ node)
  unfolding settled_tree settled_node
  not_thin e = (rw e, rw e)

  pub no_ghost : at t.state x ≢ 2 → (settled_tree t x ≡ t) × (settled_node t x node ≡ node)
  unfolding thin
  no_ghost h = not_thin (rw (ne_eqb _ 2 h))

  pub not_one_child : children t x ≢ 1 → (settled_tree t x ≡ t) × (settled_node t x node ≡ node)
  unfolding thin
  not_one_child h = not_thin (and_no (eqb (at t.state x) 2) (eqb (children t x) 1) (λ a b. h (eqb-true _ 1 b)))

  pub no_child : first_child t x ≡ none → (settled_tree t x ≡ t) × (settled_node t x node ≡ node)
  unfolding settled_tree settled_node
  no_child e = rw e (go (thin t x))
    where
      go : (b : Bool) → (cond b t t ≡ t) × (cond b node node ≡ node)
      go true = (refl, refl)
      go false = (refl, refl)

  pub one_child : at t.state x ≡ 2 → children t x ≡ 1 → (w : ℕ) → first_child t x ≡ some w → (settled_tree t x ≡ spliced t x w) × (settled_node t x node ≡ relabelled x w node)
  unfolding settled_tree settled_node thin
  one_child a b w e = (rw (eq-eqb _ 2 a, eq-eqb _ 1 b, e), rw (eq-eqb _ 2 a, eq-eqb _ 1 b, e))
