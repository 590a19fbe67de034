-- The records of a store (SPEC 4): the measures, the tree and the two halves of the table; and who lives and reads what, by tag. A further field of the
-- records stands here, beside the tree, and what is said of trees and tables does not move. Definitions only. Assumes nothing.
use Rattle.std.specs.Prelude.{Bool, true, false, List, ℕ}
use Rattle.std.proofs.Math.Option.{Option, none, some}
use Rattle.measures.specs.declared.Size.{Size}
use Rattle.trees.specs.declared.Tree.{Tree}
use Rattle.trees.specs.Trees.{Table, table_of, version}
use Rattle.trees.specs.Reading.{place}

pub record Records : Type 0 where
  pub size : Size
  pub tree : Tree
  pub node : List ℕ
  pub row : List ℕ

-- from the parts that a call is lent
abbrev pub records_of : Size → Tree → List ℕ → List ℕ → Records
records_of size tree node row = record { size = size; tree = tree; node = node; row = row }

abbrev pub table : Records → Table
table z = table_of z.size.rows z.node z.row

-- By tag: whether a version lives, and the place from which it reads a row

abbrev pub is_found : Option ℕ → Bool
is_found none = false
is_found (some n) = true

unfoldable pub lives : Records → ℕ → Bool
lives z u = is_found (version z.tree u)

abbrev pub place_by : Records → Option ℕ → ℕ → ℕ
place_by z none r = 0
place_by z (some n) r = place z.tree (table z) n r

unfoldable pub tag_place : Records → ℕ → ℕ → ℕ
tag_place z u r = place_by z (version z.tree u) r
