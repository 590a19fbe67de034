-- A snapshot keeps the records sound. Assumes nothing.
use Rattle.std.specs.Prelude.{◌≡◌, refl, Bool, true, false, cond, List, ℕ, eqb}
use Rattle.std.proofs.Common.{◌∙◌, length-set}
use Rattle.std.proofs.Math.Option.{Option, none, some}
use Rattle.trees.specs.declared.Tree.{Tree}
use Rattle.records.specs.Records.{Records}
use Rattle.trees.specs.Trees.{version}
use Rattle.answers.specs.declared.Refusal.{Refusal}
use Rattle.answers.specs.Tests.{unless}
use Rattle.edits.specs.Edits.{with_tree, Whole, grown}
use Rattle.nodes.specs.Nodes.{empty_node, first_child}
use Rattle.growing.specs.Growing.{hung_by, grown_by, tree_at}
use Rattle.takes.specs.Taking.{snapshot_verdict, tree_by, snapshot_tree}
use Rattle.takes.proofs.Taken.{snapshot_allowed, snapshot_copied}
use Rattle.intact.specs.Intact.{Intact}

-- the tree's arrays stay whole

hung_whole : (t : Tree) (o : Option ℕ) (m : ℕ) → Whole t → Whole (hung_by t o m)
hung_whole t none m w = w
hung_whole t (some c) m w = record { state = w.state; tag = w.tag; parent = length-set t.parent c m ∙ w.parent }

grown_whole : (t : Tree) (m g p : ℕ) → Whole t → Whole (grown t m g p)
grown_whole t m g p w = record { state = length-set t.state m 1 ∙ w.state; tag = length-set t.tag m g ∙ w.tag; parent = length-set t.parent m p ∙ w.parent }

tree_whole : (t : Tree) (v g : ℕ) → Whole t → Whole (tree_at t v g)
unfolding tree_at
tree_whole t v g w = go (empty_node t)
  where
    pick : (b : Bool) {x y : Tree} → Whole x → Whole y → Whole (cond b x y)
    pick true p q = p
    pick false p q = q

    go : (o : Option ℕ) → Whole (grown_by t v g o)
    go none = w
    go (some m) = pick (eqb v 0) (hung_whole (grown t m g v) (first_child t 0) m (grown_whole t m g v w)) (grown_whole t m g v w)

pub snapshot_whole : (z : Records) (source new : ℕ) → Whole z.tree → Whole (unless (snapshot_verdict z source new) (λ r. z.tree) (snapshot_tree z.tree source new))
unfolding snapshot_tree
snapshot_whole z source new w = go (snapshot_verdict z source new) (version z.tree source)
  where
    go : (v : Option Refusal) (o : Option ℕ) → Whole (unless v (λ r. z.tree) (tree_by z.tree o new))
    go (some x) o = w
    go none none = w
    go none (some n) = tree_whole z.tree n new w

-- the whole call
pub snapshot_intact : (z : Records) (places : List ℕ) → Intact z places → (source new : ℕ) → Intact (with_tree z (unless (snapshot_verdict z source new) (λ r. z.tree) (snapshot_tree z.tree source new))) places
snapshot_intact z places k source new = go (snapshot_verdict z source new) refl (snapshot_whole z source new k.whole)
  where
    go : (v : Option Refusal) → snapshot_verdict z source new ≡ v → Whole (unless v (λ r. z.tree) (snapshot_tree z.tree source new)) → Intact (with_tree z (unless v (λ r. z.tree) (snapshot_tree z.tree source new))) places
    go none e w = record { sound = (snapshot_copied z k.whole k.sound source new (snapshot_allowed z source new e)).sound; size = k.size; whole = w }
    go (some x) e w = k
