-- The changes that snapshot and write make to tree and table, and what is to hold of the records after each. Definitions only. Assumes nothing.
use Rattle.std.specs.Prelude.{◌≡◌, ◌≢◌, true, ◌||◌, ℕ, ◌<◌, eqb, length, set}
use Rattle.std.proofs.Math.Option.{some}
use Rattle.basics.specs.Decide.{at}
use Rattle.trees.specs.declared.Tree.{Tree}
use Rattle.records.specs.Records.{Records, records_of, lives, tag_place}
use Rattle.trees.specs.Trees.{tree_of, Child, version}
use Rattle.records.specs.Sound.{Sound}

-- Changes

-- a new living node m, with tag g, under node p
abbrev pub grown : Tree → ℕ → ℕ → ℕ → Tree
grown t m g p = tree_of (set t.state m 1) (set t.tag m g) (set t.parent m p)

-- node c is hung under node p
abbrev pub hung : Tree → ℕ → ℕ → Tree
hung t c p = tree_of t.state t.tag (set t.parent c p)

-- node v becomes a ghost, and its tag passes to a new child m
abbrev pub split : Tree → ℕ → ℕ → Tree
split t v m = tree_of (set (set t.state v 2) m 1) (set (set t.tag v 0) m (at t.tag v)) (set t.parent m v)

abbrev pub with_tree : Records → Tree → Records
with_tree z t = records_of z.size t z.node z.row

-- entry i gets a node and a row
abbrev pub with_entry : Records → ℕ → ℕ → ℕ → Records
with_entry z i n r = records_of z.size z.tree (set z.node i n) (set z.row i r)

-- the arrays of a tree are whole, and node m is empty; entry i is free
pub record Whole (t : Tree) : Type 0 where
  pub state : length t.state ≡ 128
  pub tag : length t.tag ≡ 128
  pub parent : length t.parent ≡ 128

abbrev pub EmptyNode : Tree → ℕ → Type 0
EmptyNode t m = (m < 128) × (at t.state m ≡ 0)

abbrev pub FreeEntry : Records → ℕ → Type 0
FreeEntry z i = (i < length z.node) × (at z.node i ≡ 0)

-- What holds after each

-- a snapshot of s under g: the new version reads as its source, the others as before
pub record Copied (z z' : Records) (s g : ℕ) : Type 0 where
  pub sound : Sound z'
  pub living : (u : ℕ) → lives z' u ≡ (eqb u g || lives z u)
  pub new : (r : ℕ) → tag_place z' g r ≡ tag_place z s r
  pub old : (u r : ℕ) → lives z u ≡ true → u ≢ g → tag_place z' u r ≡ tag_place z u r

-- the version g now stands at the leaf m, and every version reads as before
pub record Parted (z z' : Records) (g m : ℕ) : Type 0 where
  pub sound : Sound z'
  pub living : (u : ℕ) → lives z' u ≡ lives z u
  pub same : (u r : ℕ) → lives z u ≡ true → tag_place z' u r ≡ tag_place z u r
  pub stands : version z'.tree g ≡ some m
  pub leaf : (c : ℕ) → Child z'.tree m c → ⊥

-- row r of version g is now read from place q, and all else from where it was
pub record Moved (z z' : Records) (g r q : ℕ) : Type 0 where
  pub sound : Sound z'
  pub living : (u : ℕ) → lives z' u ≡ lives z u
  pub here : tag_place z' g r ≡ q
  pub elsewhere : (u k : ℕ) → lives z u ≡ true → (u ≡ g → k ≡ r → ⊥) → tag_place z' u k ≡ tag_place z u k

-- the snapshots that read row r from the origin's place now read it from place q, and all else is read from where it was
pub record Saved (z z' : Records) (r q : ℕ) : Type 0 where
  pub sound : Sound z'
  pub living : (u : ℕ) → lives z' u ≡ lives z u
  pub there : (u : ℕ) → lives z u ≡ true → u ≢ 0 → tag_place z u r ≡ r → tag_place z' u r ≡ q
  pub elsewhere : (u k : ℕ) → lives z u ≡ true → (u ≢ 0 → k ≡ r → tag_place z u k ≡ r → ⊥) → tag_place z' u k ≡ tag_place z u k
