-- The tree and the table of the drawing in Trees, with 3 rows: what the definitions give for them, by evaluation. Assumes nothing.
use Rattle.std.specs.Prelude.{◌≡◌, refl, [], ◌∷◌, map, replicate}
use Rattle.std.proofs.Math.Option.{none, some}
use Rattle.basics.specs.Count.{sum, one, count, first}
use Rattle.trees.specs.declared.Tree.{Tree}
use Rattle.trees.specs.Trees.{Table, tree_of, table_of, ancestor, up, is_used, nodes_used, is_child, children, is_snapshot, snapshots, taken, used, is_version, version}
use Rattle.trees.specs.Reading.{owns, entry, climb, place}

abbrev drawn_tree : Tree
drawn_tree =
    tree_of (1 ∷ 2 ∷ 1 ∷ 1 ∷ 1 ∷ replicate 123 0) (0 ∷ 0 ∷ 8 ∷ 7 ∷ 9 ∷ replicate 123 0) (0 ∷ 0 ∷ 3 ∷ 1 ∷ 1 ∷ replicate 123 0)

abbrev drawn_table : Table
drawn_table = table_of 3 (1 ∷ 0 ∷ 3 ∷ 4 ∷ []) (2 ∷ 0 ∷ 2 ∷ 0 ∷ [])

-- tags 0, 7, 8 and 9 live, at nodes 0, 3, 2 and 4
nodes : map (version drawn_tree) (0 ∷ 7 ∷ 8 ∷ 9 ∷ 5 ∷ []) ≡ some 0 ∷ some 3 ∷ some 2 ∷ some 4 ∷ none ∷ []
unfolding version is_version first
nodes = refl

-- row 2 of the origin is in place 2, of tags 7 and 8 in place L + 2, of tag 9 in place L; row 0 of tag 9 in place L + 3
row_2 : map (λ n. place drawn_tree drawn_table n 2) (0 ∷ 3 ∷ 2 ∷ 4 ∷ []) ≡ 2 ∷ 5 ∷ 5 ∷ 3 ∷ []
unfolding place climb entry owns first
row_2 = refl

row_0 : map (λ n. place drawn_tree drawn_table n 0) (0 ∷ 3 ∷ 2 ∷ 4 ∷ []) ≡ 0 ∷ 0 ∷ 0 ∷ 6 ∷ []
unfolding place climb entry owns first
row_0 = refl

-- 5 nodes, 3 snapshots, 6 places; node 0 has one child, the ghost two; two steps up from node 2 is the ghost
counts : nodes_used drawn_tree ∷ snapshots drawn_tree ∷ used drawn_table ∷ children drawn_tree 0 ∷ children drawn_tree 1 ∷ ancestor (up drawn_tree) 2 2 ∷ [] ≡ 5 ∷ 3 ∷ 6 ∷ 1 ∷ 2 ∷ 1 ∷ []
unfolding nodes_used is_used snapshots is_snapshot used taken children is_child count sum one ancestor
counts = refl
