-- `asking::others_read` meets its contract: no other living version passed meets g. Assumes nothing.
use Prim.Native.Nat.{ℕ, ◌≤◌, ◌<◌, ◌-◌}
use Rattle.asking.specs.Asking.{OtherMeets}
use Rattle.asking.proofs.others_read.Given as goal

abbrev pub invariant-loop-n : goal.invariant-loop-n
invariant-loop-n l = (k : ℕ) → k < l.n → OtherMeets l.tree l.marks l.v l.g l.r.0 k → ⊥
