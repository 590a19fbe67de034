-- The records as bytes. 16-bit numbers have the high byte first; n = P - L. Definitions only. Assumes nothing.
--
--   byte  0   2   4   6              134             262                    518          518 + n
--         L   B   P   128 states     128 parents     128 tags of 2 bytes    n nodes      n rows of 2 bytes
use Rattle.std.specs.Prelude.{◌≡◌, List, [], ◌∷◌, ◌++◌, ℕ, ◌+◌, ◌-◌, ◌*◌, length, take, drop}
use Rattle.measures.specs.declared.Size.{Size}
use Rattle.measures.specs.Measures.{Within}
use Rattle.trees.specs.declared.Tree.{Tree}
use Rattle.records.specs.Records.{Records, records_of}
use Rattle.trees.specs.Trees.{tree_of}
use Rattle.laying.specs.Laid.{pairs, numbers, pair_at}

-- where each part begins
abbrev pub states_at : ℕ
states_at = 6

abbrev pub parents_at : ℕ
parents_at = states_at + 128

abbrev pub tags_at : ℕ
tags_at = parents_at + 128

abbrev pub table_at : ℕ
table_at = tags_at + 256

-- how many entries the table of a store has
abbrev pub entries : Size → ℕ
entries size = size.places - size.rows

-- how many bytes its records have
abbrev pub records_size : Size → ℕ
records_size size = table_at + 3 * entries size

unfoldable pub tree_bytes : Tree → List ℕ
tree_bytes t = t.state ++ (t.parent ++ pairs t.tag)

unfoldable pub table_bytes : List ℕ → List ℕ → List ℕ
table_bytes node row = node ++ pairs row

unfoldable pub stored : Records → List ℕ
stored z = pairs (z.size.rows ∷ z.size.width ∷ z.size.places ∷ []) ++ (tree_bytes z.tree ++ table_bytes z.node z.row)

-- the measures that the bytes begin with
abbrev pub size_at : List ℕ → Size
size_at b = record { rows = pair_at b 0; width = pair_at b 2; places = pair_at b 4 }

-- n bytes from a position on
abbrev pub part : ℕ → ℕ → List ℕ → List ℕ
part from n b = take n (drop from b)

abbrev pub tree_at : List ℕ → Tree
tree_at b = tree_of (part states_at 128 b) (numbers (part tags_at 256 b)) (part parents_at 128 b)

-- the two halves of the table; the nodes are bytes as they lie there
abbrev pub nodes_at : List ℕ → List ℕ
nodes_at b = part table_at (entries (size_at b)) b

abbrev pub rows_at : List ℕ → List ℕ
rows_at b = numbers (part (table_at + entries (size_at b)) (2 * entries (size_at b)) b)

unfoldable pub loaded : List ℕ → Records
loaded b = records_of (size_at b) (tree_at b) (nodes_at b) (rows_at b)

-- the bytes are as many as their measures say
pub record Fits (b : List ℕ) : Type 0 where
  pub within : Within (size_at b)
  pub long : length b ≡ records_size (size_at b)
