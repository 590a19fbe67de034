-- What the parts of a write ask and give: a node that stands ready, room for it, and places inside the buffer. Assumes nothing.
use Rattle.std.specs.Prelude.{◌≡◌, ◌≢◌, List, ℕ, ◌+◌, ◌≤◌, ◌<◌, length}
use Rattle.std.proofs.Math.Path.{refl}
use Rattle.std.proofs.Math.Option.{Option, none, some}
use Rattle.std.proofs.Common.{arith}
use Rattle.trees.specs.declared.Tree.{Tree}
use Rattle.records.specs.Records.{Records}
use Rattle.trees.specs.Trees.{InUse, Child, nodes_used}
use Rattle.bound.specs.Bound.{node_bound_child}
use Rattle.edits.specs.Edits.{split, FreeEntry}
use Rattle.nodes.specs.Nodes.{empty_node, first_child, empty_of}
use Rattle.placing.specs.Placing.{Inside}
use Rattle.placing.specs.Laws.{inside_of}
use Rattle.owning.specs.Owning.{held, parted_tree, parted_node, parted_node', Writable}

-- A node that stands ready

module _ (t : Tree) (v : ℕ) where
  pub leaf_tree : first_child t v ≡ none → parted_tree t v ≡ t
  unfolding parted_tree
  leaf_tree e = rw e

  pub leaf_node : first_child t v ≡ none → parted_node t v ≡ v
  unfolding parted_node
  leaf_node e = rw e

  pub parent_tree : (c m : ℕ) → first_child t v ≡ some c → empty_node t ≡ some m → parted_tree t v ≡ split t v m
  unfolding parted_tree
  parent_tree c m e h = rw (e, h)

  pub parent_node : (c m : ℕ) → first_child t v ≡ some c → empty_node t ≡ some m → parted_node t v ≡ m
  unfolding parted_node
  parent_node c m e h = rw (e, h)

  pub ready_low : v < 128 → parted_node t v < 128
  unfolding parted_node
  ready_low l = go (first_child t v) (empty_node t) refl
    where
      go : (o m : Option ℕ) → empty_node t ≡ m → parted_node' v o m < 128
      go none m e = l
      go (some c) none e = l
      go (some c) (some m) e = (empty_of t m e).0

-- What a writable row gives

pub writable_at : {z : Records} {places : List ℕ} {v v' r : ℕ} {bs : List ℕ} → v ≡ v' → Writable z places v r bs → Writable z places v' r bs
writable_at e w = rw (← e) w

module _ {z : Records} {places : List ℕ} {v r : ℕ} {bs : List ℕ} (w : Writable z places v r bs) where
  pub used_node : InUse z.tree v
  used_node = (w.alive.0, omega (arith, w.alive.1))

  -- a snapshot that has a child finds an empty node
  pub child_room : v ≢ 0 → (c : ℕ) → Child z.tree v c → nodes_used z.tree < 128
  child_room n c h =
      let s = w.sound in
      omega (arith, node_bound_child z.tree s.states s.linked s.branching v c (n, w.alive) h, s.tagged.most)

  pub few_entries : z.size.rows + length z.node ≤ 4096
  few_entries = let m = w.sound.measured in omega (arith, m.nodes, m.within.places.0, m.within.places.1)

  pub narrow_row : r < 1024
  narrow_row = omega (arith, w.low, w.sound.measured.within.rows.1)

  pub row_entry : (i : ℕ) → FreeEntry z i → i < length z.row
  row_entry i f = let m = w.sound.measured in omega (arith, f.0, m.nodes, m.rows)

  pub entry_few : (i : ℕ) → FreeEntry z i → z.size.rows + i ≤ 4096
  entry_few i f = omega (arith, f.0, few_entries)

  -- the places that are written lie inside
  pub inside : (p : ℕ) → p < z.size.places → Inside places z.size.width p
  inside p l = let m = w.sound.measured.within in inside_of places z.size.width z.size.places p m.width.1 m.places.1 w.size l

  pub inside_entry : (i : ℕ) → FreeEntry z i → Inside places z.size.width (z.size.rows + i)
  inside_entry i f = let m = w.sound.measured in inside (z.size.rows + i) (omega (arith, f.0, m.nodes, m.within.places.0))

  pub inside_home : Inside places z.size.width r
  inside_home = inside r (omega (arith, w.low, w.sound.measured.within.places.0))

-- The four things together

pub held_same : {t t' : Tree} {n n' r r' p p' : List ℕ} → t ≡ t' → n ≡ n' → r ≡ r' → p ≡ p' → held t n r p ≡ held t' n' r' p'
held_same a b c d = λ i. held (a i) (b i) (c i) (d i)
