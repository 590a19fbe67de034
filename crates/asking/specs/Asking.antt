-- Who reads an entry, by marks: the version at one node, and others. Definitions only. Assumes nothing.
use Rattle.std.specs.Prelude.{◌≢◌, List, ℕ, ◌<◌}
use Rattle.trees.specs.declared.Tree.{Tree}
use Rattle.trees.specs.Trees.{InUse, Alive, Child}
use Rattle.trees.specs.Rules.{Linked}
use Rattle.table.specs.Rules.{MarkedRow, Meets}

-- a living version other than the one at node v, the one at node n, reads node g's own row r
abbrev pub OtherMeets : Tree → List ℕ → ℕ → ℕ → ℕ → ℕ → Type 0
OtherMeets t marks v g r n = Alive t n × (n ≢ v) × Meets t marks r g n

-- some other does
abbrev pub OthersMeet : Tree → List ℕ → ℕ → ℕ → ℕ → Type 0
OthersMeet t marks v g r = (n : ℕ) × OtherMeets t marks v g r n

-- the version at node v reads it, and no other
pub record MeetsAlone (t : Tree) (marks : List ℕ) (v g r : ℕ) : Type 0 where
  pub below : g ≢ 0
  pub meets : Meets t marks r g v
  pub alone : OthersMeet t marks v g r → ⊥

-- a node v in use of a linked tree, a node g, and a row with marks, if g is other than 0
pub record Asking (t : Tree) (marks : List ℕ) (v g r : ℕ) : Type 0 where
  pub linked : Linked t
  pub used : InUse t v
  pub node : g < 128
  pub row : g ≢ 0 → MarkedRow marks r

-- node v has no child
abbrev pub Childless : Tree → ℕ → Type 0
Childless t v = (c : ℕ) → Child t v c → ⊥
