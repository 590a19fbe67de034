-- A version without a child right below a living one, and its entries freed. Definitions only. Assumes nothing.
use Rattle.std.specs.Prelude.{cond, List, ℕ, eqb}
use Rattle.basics.specs.Decide.{at}
use Rattle.trees.specs.declared.Tree.{Tree}
use Rattle.trees.specs.Trees.{Alive, up}
use Rattle.asking.specs.Asking.{Childless}
use Rattle.removal.specs.Removal.{map_indexed}

-- node v has no child, and its parent is alive
abbrev pub Loose : Tree → ℕ → Type 0
Loose t v = Childless t v × Alive t (up t v)

-- a number of the table afterwards, 0 if its entry was of node v
abbrev pub own_free : ℕ → List ℕ → ℕ → ℕ → ℕ
own_free v node i x = cond (eqb (at node i) v) 0 x

-- either list of the table, with node v's entries freed
unfoldable pub own_freed : ℕ → List ℕ → List ℕ → List ℕ
own_freed v node xs = map_indexed (own_free v node) 0 xs
