-- Reading: a node's own row, else what its parent reads, and for node 0 the row's home. As a relation to be believed, and as a function that contracts cite. Definitions only. Assumes nothing.
use Rattle.std.specs.Prelude.{◌≡◌, ◌≢◌, Bool, ◌&&◌, cond, ℕ, zero, suc, ◌+◌, ◌<◌, eqb, length}
use Rattle.std.proofs.Math.Option.{Option, none, some}
use Rattle.basics.specs.Decide.{at}
use Rattle.basics.specs.Count.{first}
use Rattle.trees.specs.declared.Tree.{Tree}
use Rattle.trees.specs.Trees.{Table, up}

-- node n has its own row r at entry i
abbrev pub Owns : Table → ℕ → ℕ → ℕ → Type 0
Owns e n r i = (i < length e.node) × (at e.node i ≡ n) × (at e.row i ≡ r)

-- node n reads row r from place p
pub data Reads (t : Tree) (e : Table) (r p : ℕ) : ℕ → Type 0 where
  origin : {n : ℕ} → n ≡ 0 → p ≡ r → Reads t e r p n
  own : {n i : ℕ} → n ≢ 0 → Owns e n r i → p ≡ e.rows + i → Reads t e r p n
  above : {n : ℕ} → n ≢ 0 → ((i : ℕ) → Owns e n r i → ⊥) → Reads t e r p (up t n) → Reads t e r p n

-- the entry of a node's own row
unfoldable pub owns : Table → ℕ → ℕ → ℕ → Bool
owns e n r i = eqb (at e.node i) n && eqb (at e.row i) r

unfoldable pub entry : Table → ℕ → ℕ → Option ℕ
entry e n r = first (owns e n r) (length e.node)

-- the place of an entry, if there is one
abbrev pub place_or : ℕ → Option ℕ → ℕ → ℕ
place_or rows (some i) p = rows + i
place_or rows none p = p

-- what a node reads with at most k steps up; then with 128, which is as far as any node of sound records is from node 0
unfoldable pub climb : Tree → Table → ℕ → ℕ → ℕ → ℕ
climb t e r zero n = r
climb t e r (suc k) n = cond (eqb n 0) r (place_or e.rows (entry e n r) (climb t e r k (up t n)))

unfoldable pub place : Tree → Table → ℕ → ℕ → ℕ
place t e n r = climb t e r 128 n
