-- The tree's rules together, what a climb asks, and what a search found. Assumes nothing.
use Rattle.std.specs.Prelude.{◌≡◌, refl, ◌≢◌, ℕ, ◌<◌, Option, Some, None}
use Rattle.std.proofs.Math.Option as math
use Rattle.std.proofs.Math.Option.{none, some}
use Rattle.trees.specs.declared.Tree.{Tree}
use Rattle.trees.specs.Trees.{InUse, up}
use Rattle.trees.specs.Rules.{States, Linked, Tagged, Branching}

-- what was found, as the program has it
abbrev pub found_of : math.Option ℕ → Option ℕ
found_of (some n) = Some n
found_of none = None

-- the rules 2 to 5
pub record TreeSound (t : Tree) : Type 0 where
  pub states : States t
  pub linked : Linked t
  pub tagged : Tagged t
  pub branching : Branching t

-- rule 3's first half at node n, and at every node
abbrev pub Parent : Tree → ℕ → Type 0
Parent t n = n ≢ 0 → InUse t n → InUse t (up t n)

abbrev pub Parents : Tree → Type 0
Parents t = (n : ℕ) → n < 128 → Parent t n

-- a node in use, of a tree whose nodes in use have parents in use
pub record Climbs (t : Tree) (n : ℕ) : Type 0 where
  pub parents : Parents t
  pub used : InUse t n

-- and back
pub found_at : (o : math.Option ℕ) (n : ℕ) → Some n ≡ found_of o → o ≡ some n
found_at (some m) n e = cc
found_at none n e = absurd cc

pub found_missing : (o : math.Option ℕ) → None ≡ found_of o → o ≡ none
found_missing (some m) e = absurd cc
found_missing none e = refl
