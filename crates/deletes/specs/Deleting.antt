-- What a delete answers and leaves: the tests of SPEC 7.1 after 20, and the tree and table. Definitions only. Assumes nothing.
use Rattle.std.specs.Prelude.{◌≡◌, not, List, [], ◌∷◌, ℕ, eqb}
use Rattle.std.proofs.Math.Option.{Option, none, some}
use Rattle.trees.specs.declared.Tree.{Tree}
use Rattle.records.specs.Records.{Records, table, lives}
use Rattle.records.specs.declared.Records.{Records as Lent}
use Rattle.trees.specs.Trees.{Snapshot, version}
use Rattle.records.specs.Sound.{Sound}
use Rattle.answers.specs.declared.Refusal.{Refusal}
use Rattle.answers.specs.declared.Refusal.TheVariants.{OriginTag, UnknownTag, Unsound}
use Rattle.answers.specs.Answers.{number}
use Rattle.answers.specs.Tests.{Tests, refusal}
use Rattle.soundness.specs.Judged.{Judged, Leaves}
use Rattle.removal.specs.Removal.{ghosted, freed_list}
use Rattle.pruning.specs.Pruning.{pruned_tree, pruned_node, settled_tree, settled_node}

unfoldable pub delete_tests : Records → ℕ → Tests
delete_tests z tag = (eqb tag 0, OriginTag) ∷ (not (lives z tag), UnknownTag) ∷ []

unfoldable pub delete_verdict : Records → ℕ → Option Refusal
delete_verdict z tag = refusal (delete_tests z tag)

-- all that a delete may change
pub record Left : Type 0 where
  pub tree : Tree
  pub node : List ℕ
  pub row : List ℕ

abbrev pub left : Tree → List ℕ → List ℕ → Left
left tree node row = record { tree = tree; node = node; row = row }

-- of the records as they are lent
abbrev pub left_in : Lent → Left
left_in z = left z.tree z.node.now z.row.now

-- The effect: the entries that only v reads are freed, v becomes a ghost, and what is superfluous goes

unfoldable pub deleted_at : Records → ℕ → Left
deleted_at z v =
    let t = ghosted z.tree v in
    let x = pruned_node t v in
    left (settled_tree (pruned_tree t v) x) (settled_node (pruned_tree t v) x (freed_list z.tree (table z) v z.node)) (freed_list z.tree (table z) v z.row)

abbrev pub deleted_by : Records → Option ℕ → Left
deleted_by z none = left z.tree z.node z.row
deleted_by z (some v) = deleted_at z v

unfoldable pub deleted : Records → ℕ → Left
deleted z tag = deleted_by z (version z.tree tag)

-- a delete that has passed its tests
pub record Deletable (z : Records) (v : ℕ) : Type 0 where
  pub sound : Sound z
  pub snapshot : Snapshot z.tree v

-- The promise of a delete: on sound records the tests' number and what is left, or all as it was; on others 20, and all as it was
abbrev pub DeleteEnds : Records → ℕ → ℕ → Left → Type 0
DeleteEnds z tag answer got =
    Judged z (Leaves (delete_verdict z tag) (left z.tree z.node z.row) (deleted z tag) answer got)
    ((answer ≡ number Unsound) × (got ≡ left z.tree z.node z.row))
