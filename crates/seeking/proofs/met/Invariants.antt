-- `seeking::met` meets its contract: no living node passed meets g. Assumes nothing.
use Prim.Native.Nat.{ℕ, ◌<◌}
use mathlib.Core.Path.{◌≡◌}
use Rattle.table.specs.Rules.{Meets}
use Rattle.basics.specs.Decide.{at}
use Rattle.seeking.proofs.met.Given as goal

abbrev pub invariant-loop-n : goal.invariant-loop-n
invariant-loop-n l = (k : ℕ) → k < l.n → at l.tree.state k ≡ 1 → Meets l.tree l.marks l.r.0 l.g k → ⊥
