-- What the lookup asks, and what the count of places keeps. Assumes nothing.
use Rattle.std.specs.Prelude.{◌≡◌, ◌≢◌, ℕ, ◌+◌, ◌≤◌, length}
use Rattle.basics.specs.Decide.{at, not_yes, not_no}
use Rattle.basics.specs.Count.{count}
use Rattle.basics.proofs.CountLaws.{count_yes, count_no}
use Rattle.std.proofs.Common.{eq-eqb, ne_eqb}
use Rattle.trees.specs.declared.Tree.{Tree}
use Rattle.trees.specs.Trees.{Table, taken}
use Rattle.tree.specs.Rules.{Climbs}

-- a node in use of a tree whose nodes in use have parents in use; the two halves of the table are as long, the places few
pub record Looking (t : Tree) (e : Table) (n : ℕ) : Type 0 where
  pub climbs : Climbs t n
  pub halves : length e.row ≡ length e.node
  pub few : e.rows + length e.node ≤ 4096

-- the count of exceptions
module _ (e : Table) (i : ℕ) where
  pub taken_yes : at e.node i ≢ 0 → count (taken e) (i + 1) ≡ count (taken e) i + 1
  unfolding taken
  taken_yes h = count_yes (taken e) i (not_yes (ne_eqb _ 0 h))

  pub taken_no : at e.node i ≡ 0 → count (taken e) (i + 1) ≡ count (taken e) i
  unfolding taken
  taken_no h = count_no (taken e) i (not_no (eq-eqb _ 0 h))
