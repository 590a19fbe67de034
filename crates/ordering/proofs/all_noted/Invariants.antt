-- `ordering::all_noted` meets its contract. Assumes nothing.
use Prim.Native.Nat.{ℕ, ◌<◌}
use mathlib.Core.Path.{◌≡◌}
use Rattle.basics.specs.Decide.{at}
use Rattle.std.specs.Prelude.{true}
use Rattle.ordering.specs.Ordered.{is_noted}
use Rattle.ordering.proofs.all_noted.Given as goal

abbrev pub invariant-loop-n : goal.invariant-loop-n
invariant-loop-n l = (k : ℕ) → k < l.n-index → is_noted l.seen (at l.used k) ≡ true
