-- What a snapshot answers and leaves: the tests of SPEC 7.1 after 20, and the new tree. Definitions only. Assumes nothing.
use Rattle.std.specs.Prelude.{◌≡◌, not, [], ◌∷◌, ℕ, eqb, leb}
use Rattle.std.proofs.Math.Option.{Option, none, some}
use Rattle.trees.specs.declared.Tree.{Tree}
use Rattle.records.specs.Records.{Records, lives}
use Rattle.trees.specs.Trees.{snapshots, version}
use Rattle.answers.specs.declared.Refusal.{Refusal}
use Rattle.answers.specs.declared.Refusal.TheVariants.{ZeroTag, UnknownTag, TagAlive, SnapshotsFull, Unsound}
use Rattle.answers.specs.Answers.{number}
use Rattle.answers.specs.Tests.{Tests, refusal}
use Rattle.soundness.specs.Judged.{Judged, Leaves}
use Rattle.growing.specs.Growing.{tree_at}

unfoldable pub snapshot_tests : Records → ℕ → ℕ → Tests
snapshot_tests z source new =
    (eqb new 0, ZeroTag)
    ∷ (not (lives z source), UnknownTag)
    ∷ (lives z new, TagAlive)
    ∷ (leb 64 (snapshots z.tree), SnapshotsFull)
    ∷ []

unfoldable pub snapshot_verdict : Records → ℕ → ℕ → Option Refusal
snapshot_verdict z source new = refusal (snapshot_tests z source new)

abbrev pub tree_by : Tree → Option ℕ → ℕ → Tree
tree_by t none tag = t
tree_by t (some v) tag = tree_at t v tag

-- the tree after a snapshot of the version with tag source, under tag new
unfoldable pub snapshot_tree : Tree → ℕ → ℕ → Tree
snapshot_tree t source new = tree_by t (version t source) new

-- The promise of a snapshot: on sound records the tests' number and the new tree, or the tree as it was; on others 20, and the tree as it was
abbrev pub SnapshotEnds : Records → ℕ → ℕ → ℕ → Tree → Type 0
SnapshotEnds z source new answer tree =
    Judged z (Leaves (snapshot_verdict z source new) z.tree (snapshot_tree z.tree source new) answer tree) ((answer ≡ number Unsound) × (tree ≡ z.tree))
