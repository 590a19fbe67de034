-- The table's rules as the check tests them: marks for what entries name, one entry at a time. Definitions only. Assumes nothing.
use Rattle.std.specs.Prelude.{◌≡◌, ◌≢◌, Bool, true, false, List, ℕ, ◌+◌, ◌*◌, ◌≤◌, ◌<◌, length}
use Rattle.basics.specs.Decide.{Decides, at}
use Rattle.bits.specs.Bits.{has}
use Rattle.trees.specs.declared.Tree.{Tree}
use Rattle.trees.specs.Trees.{Table, InUse, Alive, up}
use Rattle.trees.specs.Reading.{Owns, Reads}
use Rattle.trees.specs.Rules.{Linked, Excepting, AllRead}

-- the rules 6 and 7
pub record TableSound (t : Tree) (e : Table) : Type 0 where
  pub excepting : Excepting t e
  pub all_read : AllRead t e

-- what rules 1 and 3 give: the two halves of the table are as long, the rows few, and the tree linked
pub record Fitting (t : Tree) (e : Table) : Type 0 where
  pub halves : length e.row ≡ length e.node
  pub few : e.rows ≤ 1024
  pub linked : Linked t

-- where the mark for a node and a row stands among the bits
abbrev pub slot : ℕ → ℕ → ℕ
slot n r = r * 128 + n

-- marked are the nodes and rows that entries below i name
pub record Marked (e : Table) (marks : List ℕ) (i : ℕ) : Type 0 where
  pub room : e.rows * 16 ≤ length marks
  pub bytes : (k : ℕ) → at marks k < 256
  pub named : (n r j : ℕ) → n ≢ 0 → n < 128 → r < e.rows → j < i → Owns e n r j → has marks (slot n r) ≡ true
  pub only : (n r : ℕ) → n ≢ 0 → n < 128 → r < e.rows → has marks (slot n r) ≡ true → (j : ℕ) × (j < i) × Owns e n r j

-- marks that are all 0, one for each node and row where the rows are few
pub record Blank (rows : ℕ) (marks : List ℕ) : Type 0 where
  pub room : rows ≤ 1024 → rows * 16 ≤ length marks
  pub zero : (k : ℕ) → at marks k ≡ 0

-- rule 6 at entry i, against the entries before it
pub record EntryFits (t : Tree) (e : Table) (i : ℕ) : Type 0 where
  pub free : at e.node i ≡ 0 → at e.row i ≡ 0
  pub named : at e.node i ≢ 0 → InUse t (at e.node i) × (at e.row i < e.rows)
  pub once : (j : ℕ) → j < i → at e.node i ≢ 0 → at e.node j ≡ at e.node i → at e.row j ≡ at e.row i → ⊥

-- a verdict on P, and if it is good, the marks of the entries below i. Left free, since nobody reads them: marks of rows from L on, and all marks
-- where the verdict is bad
pub record Verdict (P : Type 0) (e : Table) (i : ℕ) (marks : List ℕ) (b : Bool) : Type 0 where
  pub decided : Decides b P
  pub marked : b ≡ true → Marked e marks i

-- before entry i is tested
pub record Entering (e : Table) (marks : List ℕ) (i : ℕ) : Type 0 where
  pub halves : length e.row ≡ length e.node
  pub few : e.rows ≤ 1024
  pub marked : Marked e marks i

-- going up from n, the first node that is g or marked at row r is g
pub data Meets (t : Tree) (marks : List ℕ) (r g : ℕ) : ℕ → Type 0 where
  here : {n : ℕ} → n ≡ g → Meets t marks r g n
  above : {n : ℕ} → n ≢ g → n ≢ 0 → has marks (slot n r) ≡ false → Meets t marks r g (up t n) → Meets t marks r g n

-- and it does so from some living node
abbrev pub Met : Tree → List ℕ → ℕ → ℕ → Type 0
Met t marks r g = (n : ℕ) × Alive t n × Meets t marks r g n

-- row r has marks, one for each node
pub record MarkedRow (marks : List ℕ) (r : ℕ) : Type 0 where
  pub row : r < 1024
  pub room : r * 16 + 16 ≤ length marks

-- a node g other than 0 and a row of a linked tree; and a node n in use to start from
pub record Seeking (t : Tree) (marks : List ℕ) (g r : ℕ) : Type 0 where
  pub linked : Linked t
  pub below : g ≢ 0
  pub row : MarkedRow marks r

pub record Seeker (t : Tree) (marks : List ℕ) (n g r : ℕ) : Type 0 where
  pub seeking : Seeking t marks g r
  pub used : InUse t n

-- 128 numbers of nodes
pub record Nodes (xs : List ℕ) : Type 0 where
  pub size : length xs ≡ 128
  pub node : (k : ℕ) → k < 128 → at xs k < 128

-- before rule 7 is tested: rule 6 holds, and all entries have their marks
pub record Judging (t : Tree) (e : Table) (marks : List ℕ) : Type 0 where
  pub fitting : Fitting t e
  pub excepting : Excepting t e
  pub marked : Marked e marks (length e.node)

-- rule 7 at entry i: if it is an exception, it is read by some living version
abbrev pub ReadAt : Tree → Table → ℕ → Type 0
ReadAt t e i = at e.node i ≢ 0 → (n : ℕ) × Alive t n × Reads t e (at e.row i) (e.rows + i) n
