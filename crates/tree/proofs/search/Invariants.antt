-- `tree::search` meets its contract: no node passed has the tag. Assumes nothing.
use Prim.Native.Nat.{◌≤◌}
use mathlib.Core.Path.{◌≡◌}
use mathlib.Core.Option.{none}
use Rattle.trees.specs.Trees.{is_version}
use Rattle.basics.specs.Count.{first}
use Rattle.tree.proofs.search.Given as goal

abbrev pub invariant-loop-n : goal.invariant-loop-n
invariant-loop-n l = (l.n ≤ 128) × (first (is_version (l.tree) l.wanted) l.n ≡ none)
