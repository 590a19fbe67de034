-- `nodes::first_child` meets its contract: no node passed is the child. Assumes nothing.
use mathlib.Core.Path.{◌≡◌}
use mathlib.Core.Option.{none}
use Rattle.trees.specs.Trees.{is_child}
use Rattle.basics.specs.Count.{first}
use Rattle.nodes.proofs.first_child.Given as goal

abbrev pub invariant-loop-n : goal.invariant-loop-n
invariant-loop-n l = first (is_child l.tree l.p) l.n ≡ none
