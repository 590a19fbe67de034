-- The tree and the table of a store (SPEC 4), and what is said of their nodes. Definitions only. Assumes nothing.
--
--   tree (state, tag, parent of 128 nodes)         table (a node and a row for each snapshot place)
--
--           0  alive, tag 0: the origin              place    L    L+1   L+2   L+3  ..  P-1
--           |                                        node     1     0     3     4        0
--           1  ghost                                 row      2     0     2     0        0
--          / \                                                |   free    |     |
--         3   4  alive, tags 7 and 9                          |           |     |
--         |                                                   |           |     node 4's own row 0
--         2  alive, tag 8                                     |           node 3's own row 2
--                                                             node 1's own row 2
--   places (P stretches of B bytes)
--
--     | 0 | 1 | 2 | .. | L-1 |  L  | L+1 | L+2 | L+3 | .. | P-1 |
--      the origin's rows      |  snapshot places: one for each entry of the table
--
--   Row 2 of tag 7 and of tag 8 is in place L+2, row 2 of tag 9 in place L, row 2 of the origin in place 2.
use Rattle.std.specs.Prelude.{◌≡◌, ◌≢◌, ◌⊎◌, Bool, not, ◌&&◌, List, ℕ, zero, suc, ◌+◌, ◌<◌, eqb, length}
use Rattle.std.proofs.Math.Option.{Option}
use Rattle.basics.specs.Decide.{at}
use Rattle.basics.specs.Count.{count, first}
use Rattle.trees.specs.declared.Tree.{Tree}
use Rattle.trees.specs.declared.Entries.{Entries}

-- The exceptions, as document 01 calls them (SPEC 4). Entry i stands for place rows + i: it has a node, 0 if the place is free, and a row.
pub record Table : Type 0 where
  pub rows : ℕ
  pub node : List ℕ
  pub row : List ℕ

-- from the parts that a call is lent
abbrev pub tree_of : List ℕ → List ℕ → List ℕ → Tree
tree_of state tag parent = record { state = state; tag = tag; parent = parent }

abbrev pub table_of : ℕ → List ℕ → List ℕ → Table
table_of rows node row = record { rows = rows; node = node; row = row }

-- from the entries as they are lent
abbrev pub entries_of : Entries → Table
entries_of e = table_of e.rows e.node.now e.row.now

-- Nodes

abbrev pub InUse : Tree → ℕ → Type 0
InUse t n = (n < 128) × (at t.state n ≢ 0)

abbrev pub Alive : Tree → ℕ → Type 0
Alive t n = (n < 128) × (at t.state n ≡ 1)

abbrev pub Ghost : Tree → ℕ → Type 0
Ghost t n = (n < 128) × (at t.state n ≡ 2)

-- a living version other than the origin
abbrev pub Snapshot : Tree → ℕ → Type 0
Snapshot t n = (n ≢ 0) × Alive t n

abbrev pub up : Tree → ℕ → ℕ
up t n = at t.parent n

-- c is a child of p: a node in use, other than node 0, whose parent is p
abbrev pub Child : Tree → ℕ → ℕ → Type 0
Child t p c = (c ≢ 0) × InUse t c × (up t c ≡ p)

-- the k-th node above n
unfoldable pub ancestor : (ℕ → ℕ) → ℕ → ℕ → ℕ
ancestor f zero n = n
ancestor f (suc k) n = ancestor f k (f n)

-- going up from n reaches node 0
abbrev pub Reaches : (ℕ → ℕ) → ℕ → Type 0
Reaches f n = (k : ℕ) × (ancestor f k n ≡ 0)

-- Counts

unfoldable pub is_used : Tree → ℕ → Bool
is_used t n = not (eqb (at t.state n) 0)

-- nodes in use, node 0 among them
unfoldable pub nodes_used : Tree → ℕ
nodes_used t = count (is_used t) 128

unfoldable pub is_child : Tree → ℕ → ℕ → Bool
is_child t p c = not (eqb c 0) && (is_used t c && eqb (up t c) p)

-- how many children p has
unfoldable pub children : Tree → ℕ → ℕ
children t p = count (is_child t p) 128

unfoldable pub is_snapshot : Tree → ℕ → Bool
is_snapshot t n = not (eqb n 0) && eqb (at t.state n) 1

unfoldable pub snapshots : Tree → ℕ
snapshots t = count (is_snapshot t) 128

unfoldable pub taken : Table → ℕ → Bool
taken e i = not (eqb (at e.node i) 0)

-- places in use: the first L, and those whose entry is taken
unfoldable pub used : Table → ℕ
used e = e.rows + count (taken e) (length e.node)

-- place p is one of those
abbrev pub PlaceUsed : Table → ℕ → Type 0
PlaceUsed e p = (p < e.rows) ⊎ ((i : ℕ) × (i < length e.node) × (at e.node i ≢ 0) × (p ≡ e.rows + i))

-- Versions: the living node with a tag

unfoldable pub is_version : Tree → ℕ → ℕ → Bool
is_version t tag n = eqb (at t.state n) 1 && eqb (at t.tag n) tag

unfoldable pub version : Tree → ℕ → Option ℕ
version t tag = first (is_version t tag) 128
