-- What opening answers and leaves: the reference model's tests, then the first records, or everything as it was. Definitions only. Assumes nothing.
use Rattle.std.specs.Prelude.{◌≡◌, List, ℕ, length, replicate, set}
use Rattle.std.proofs.Math.Option.{Option}
use Rattle.measures.specs.declared.Size.{Size}
use Rattle.trees.specs.declared.Tree.{Tree}
use Rattle.trees.specs.Trees.{tree_of}
use Rattle.answers.specs.declared.Refusal.{Refusal}
use Rattle.answers.specs.Tests.{refusal, open_tests, unless, verdict_number}

-- no node in use; and node 0 alone, alive, with tag 0 and parent 0
abbrev pub no_tree : Tree
no_tree = tree_of (replicate 128 0) (replicate 128 0) (replicate 128 0)

abbrev pub first_tree : Tree
first_tree = tree_of (set (replicate 128 0) 0 1) (replicate 128 0) (replicate 128 0)

unfoldable pub open_verdict : Size → List ℕ → List ℕ → List ℕ → Option Refusal
open_verdict z places node row = refusal (open_tests z (length places) (length node) (length row))

-- the lists are the buffers as lent, and then as left
pub record Opening (z : Size) (places node row : List ℕ) (answer : ℕ) (tree : Tree) (places' node' row' : List ℕ) : Type 0 where
  pub answers : answer ≡ verdict_number (open_verdict z places node row)
  pub grows : tree ≡ unless (open_verdict z places node row) (λ r. no_tree) first_tree
  pub bytes : places' ≡ unless (open_verdict z places node row) (λ r. places) (replicate (length places) 0)
  pub nodes : node' ≡ unless (open_verdict z places node row) (λ r. node) (replicate (length node) 0)
  pub rows : row' ≡ unless (open_verdict z places node row) (λ r. row) (replicate (length row) 0)
