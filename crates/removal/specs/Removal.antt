-- The changes that a delete makes to tree and table, and records that are sound but for the children of one ghost. Definitions only. Assumes nothing.
use Rattle.std.specs.Prelude.{◌≡◌, ◌≢◌, ◌⊎◌, Bool, true, false, not, ◌&&◌, cond, List, [], ◌∷◌, ℕ, suc, ◌+◌, ◌<◌, eqb, length, set}
use Rattle.basics.specs.Decide.{at}
use Rattle.trees.specs.declared.Tree.{Tree}
use Rattle.trees.specs.Trees.{Table, tree_of, Ghost, up, Child, taken}
use Rattle.records.specs.Records.{Records, table, lives, tag_place}
use Rattle.trees.specs.Reading.{place}
use Rattle.records.specs.Sound.{Measured, Sound}
use Rattle.trees.specs.Rules.{States, Linked, Tagged, Excepting, AllRead}
use Rattle.edits.specs.Edits.{hung}
use Rattle.sharing.specs.Sharing.{SharedAt, shared_at}

-- entry i is read by the version at node v, and by no other living version
unfoldable pub lonely : Tree → Table → ℕ → ℕ → Bool
lonely t e v i = taken e i && (eqb (place t e v (at e.row i)) (e.rows + i) && not (shared_at t e v (at e.row i)))

-- the table in which those entries are free
pub record Freed (t : Tree) (e : Table) (v : ℕ) (node row : List ℕ) : Type 0 where
  pub nodes : length node ≡ length e.node
  pub rows : length row ≡ length e.row
  pub gone : (i : ℕ) → lonely t e v i ≡ true → (at node i ≡ 0) × (at row i ≡ 0)
  pub stays : (i : ℕ) → lonely t e v i ≡ false → (at node i ≡ at e.node i) × (at row i ≡ at e.row i)

-- whatever the version at node v reads, the origin or another living version reads too
abbrev pub Spare : Records → ℕ → Type 0
Spare z v = (r : ℕ) → r < z.size.rows → (place z.tree (table z) v r < z.size.rows) ⊎ SharedAt z.tree (table z) v r

-- node v becomes a ghost
abbrev pub ghosted : Tree → ℕ → Tree
ghosted t v = tree_of (set t.state v 2) (set t.tag v 0) t.parent

-- node x becomes empty
abbrev pub emptied : Tree → ℕ → Tree
emptied t x = tree_of (set t.state x 0) (set t.tag x 0) (set t.parent x 0)

-- node x, whose one child is w, is taken out: w goes under x's parent
abbrev pub spliced : Tree → ℕ → ℕ → Tree
spliced t x w = emptied (hung t w (up t x)) x

-- and x's entries become w's
pub record Relabelled (node : List ℕ) (x w : ℕ) (node' : List ℕ) : Type 0 where
  pub size : length node' ≡ length node
  pub each : (i : ℕ) → i < length node → at node' i ≡ cond (eqb (at node i) x) w (at node i)

-- sound, but that x, if it is a ghost, may have fewer than two children
pub record Nearly (z : Records) (x : ℕ) : Type 0 where
  pub measured : Measured z
  pub states : States z.tree
  pub linked : Linked z.tree
  pub tagged : Tagged z.tree
  pub root : (c d : ℕ) → Child z.tree 0 c → Child z.tree 0 d → c ≡ d
  pub ghost : (n : ℕ) → n ≢ x → Ghost z.tree n → (c : ℕ) × (d : ℕ) × (c ≢ d) × Child z.tree n c × Child z.tree n d
  pub excepting : Excepting z.tree (table z)
  pub all_read : AllRead z.tree (table z)

-- the version with tag g is gone, and every other reads as before
pub record Deleted (z z' : Records) (g : ℕ) : Type 0 where
  pub sound : Sound z'
  pub living : (u : ℕ) → lives z' u ≡ (not (eqb u g) && lives z u)
  pub same : (u r : ℕ) → lives z u ≡ true → u ≢ g → r < z.size.rows → tag_place z' u r ≡ tag_place z u r

-- The same as lists

-- every number changed by its place and itself
abbrev pub map_indexed : (ℕ → ℕ → ℕ) → ℕ → List ℕ → List ℕ
map_indexed f i [] = []
map_indexed f i (x ∷ xs) = f i x ∷ map_indexed f (suc i) xs

unfoldable pub freed_list : Tree → Table → ℕ → List ℕ → List ℕ
freed_list t e v xs = map_indexed (λ i x. cond (lonely t e v i) 0 x) 0 xs

unfoldable pub relabelled : ℕ → ℕ → List ℕ → List ℕ
relabelled x w node = map_indexed (λ i n. cond (eqb n x) w n) 0 node
