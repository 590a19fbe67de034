-- What a write may change, what it asks, and the node that is to have an own row. Definitions only. Assumes nothing.
use Rattle.std.specs.Prelude.{◌≡◌, List, ℕ, ◌*◌, ◌<◌, length}
use Rattle.std.proofs.Math.Option.{Option, none, some}
use Rattle.trees.specs.declared.Tree.{Tree}
use Rattle.records.specs.Records.{Records}
use Rattle.records.specs.declared.Records.{Records as Lent}
use Rattle.trees.specs.Trees.{Alive}
use Rattle.records.specs.Sound.{Sound}
use Rattle.edits.specs.Edits.{split}
use Rattle.nodes.specs.Nodes.{empty_node, first_child}

-- all that a write may change
pub record Held : Type 0 where
  pub tree : Tree
  pub node : List ℕ
  pub row : List ℕ
  pub places : List ℕ

abbrev pub held : Tree → List ℕ → List ℕ → List ℕ → Held
held tree node row places = record { tree = tree; node = node; row = row; places = places }

-- of the records as they are lent, and the places
abbrev pub held_in : Lent → List ℕ → Held
held_in z places = held z.tree z.node.now z.row.now places

-- a write that has passed every test but the last
pub record Writable (z : Records) (places : List ℕ) (v r : ℕ) (bs : List ℕ) : Type 0 where
  pub sound : Sound z
  pub size : length places ≡ z.size.places * z.size.width
  pub alive : Alive z.tree v
  pub low : r < z.size.rows
  pub width : length bs ≡ z.size.width

-- node v makes room for an own row: as it stands if it has no child; else it becomes a ghost, and a new child takes its tag
abbrev pub parted_tree' : Tree → ℕ → Option ℕ → Option ℕ → Tree
parted_tree' t v none m = t
parted_tree' t v (some c) none = t
parted_tree' t v (some c) (some m) = split t v m

abbrev pub parted_node' : ℕ → Option ℕ → Option ℕ → ℕ
parted_node' v none m = v
parted_node' v (some c) none = v
parted_node' v (some c) (some m) = m

unfoldable pub parted_tree : Tree → ℕ → Tree
parted_tree t v = parted_tree' t v (first_child t v) (empty_node t)

unfoldable pub parted_node : Tree → ℕ → ℕ
parted_node t v = parted_node' v (first_child t v) (empty_node t)
