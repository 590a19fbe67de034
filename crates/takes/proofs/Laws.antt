-- The ways out of snapshot, one for each test; that a node is always found; and what an accepted snapshot does. Assumes nothing.
use Rattle.std.specs.Prelude.{◌≡◌, ◌≢◌, not, ℕ, ◌≤◌, ◌<◌, leb}
use Rattle.std.proofs.Common.{◌∙◌, arith, eq-eqb, ne_eqb, le-leb}
use mathlib.Core.List.{[], ◌∷◌}
use Rattle.std.proofs.Math.Option.{none, some}
use Rattle.std.proofs.lemmas.Bool.{lt-leb}
use Rattle.trees.specs.declared.Tree.{Tree}
use Rattle.records.specs.Records.{Records, lives}
use Rattle.trees.specs.Trees.{snapshots, nodes_used, version}
use Rattle.records.specs.Sound.{Sound}
use Rattle.answers.specs.declared.Refusal.TheVariants.{ZeroTag, UnknownTag, TagAlive, SnapshotsFull}
use Rattle.answers.specs.Tests.{Tests, refusal}
use Rattle.answers.proofs.Laws.{refusal_here, refusal_next, refusal_none}
use Rattle.bound.specs.Bound.{node_room}
use Rattle.growing.specs.Growing.{tree_at}
use Rattle.takes.specs.Taking.{snapshot_tests, snapshot_verdict, snapshot_tree}

module _ (z : Records) (source new : ℕ) where
  full_test : Tests
  full_test = (leb 64 (snapshots z.tree), SnapshotsFull) ∷ []

  alive_test : Tests
  alive_test = (lives z new, TagAlive) ∷ full_test

  source_test : Tests
  source_test = (not (lives z source), UnknownTag) ∷ alive_test

  pub zero_refused : new ≡ 0 → snapshot_verdict z source new ≡ some ZeroTag
  unfolding snapshot_verdict snapshot_tests
  zero_refused e = refusal_here ZeroTag _ (eq-eqb new 0 e)

  module _ (n : new ≢ 0) where
    zero_passed : snapshot_verdict z source new ≡ refusal source_test
    unfolding snapshot_verdict snapshot_tests source_test alive_test full_test
    zero_passed = refusal_next ZeroTag _ (ne_eqb new 0 n)

    pub source_refused : version z.tree source ≡ none → snapshot_verdict z source new ≡ some UnknownTag
    unfolding source_test lives
    source_refused v = zero_passed ∙ refusal_here UnknownTag alive_test (rw v)

    module _ (v : ℕ) (s : version z.tree source ≡ some v) where
      source_passed : snapshot_verdict z source new ≡ refusal alive_test
      unfolding source_test lives
      source_passed = zero_passed ∙ refusal_next UnknownTag alive_test (rw s)

      pub alive_refused : (u : ℕ) → version z.tree new ≡ some u → snapshot_verdict z source new ≡ some TagAlive
      unfolding alive_test lives
      alive_refused u h = source_passed ∙ refusal_here TagAlive full_test (rw h)

      module _ (f : version z.tree new ≡ none) where
        alive_passed : snapshot_verdict z source new ≡ refusal full_test
        unfolding alive_test lives
        alive_passed = source_passed ∙ refusal_next TagAlive full_test (rw f)

        pub full_refused : 64 ≤ snapshots z.tree → snapshot_verdict z source new ≡ some SnapshotsFull
        unfolding full_test
        full_refused h = alive_passed ∙ refusal_here SnapshotsFull [] (le-leb 64 (snapshots z.tree) h)

        pub accepted : snapshots z.tree < 64 → snapshot_verdict z source new ≡ none
        unfolding full_test
        accepted h = alive_passed ∙ refusal_next SnapshotsFull [] (lt-leb 64 (snapshots z.tree) h) ∙ refusal_none

-- a node is always found
pub room : (z : Records) → Sound z → snapshots z.tree < 64 → nodes_used z.tree < 128
room z s h = omega (arith, node_room z.tree s.states s.linked s.branching)

pub tree_of_source : (t : Tree) (source new v : ℕ) → version t source ≡ some v → snapshot_tree t source new ≡ tree_at t v new
unfolding snapshot_tree
tree_of_source t source new v e = rw e
