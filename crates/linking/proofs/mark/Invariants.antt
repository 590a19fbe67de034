-- `linking::mark` meets its contract: whatever it passes reaches node 0. Assumes nothing.
use Prim.Native.Nat.{◌≤◌}
use mathlib.Core.Path.{◌≡◌}
use mathlib.Core.Logic.{◌⊎◌}
use Rattle.std.specs.Prelude.{true, false, get_or}
use Rattle.trees.specs.Trees.{InUse, up, Reaches}
use Rattle.linking.specs.Known.{Known}
use Rattle.linking.proofs.mark.Given as goal

abbrev pub invariant-loop-steps : goal.invariant-loop-steps
invariant-loop-steps l = let t = l.tree in (l.steps ≤ 128) × InUse t l.m × Reaches (up t) l.m × Known t l.known × (((l.steps ≡ 0) × (l.n ≡ l.m)) ⊎ (get_or l.known l.n false ≡ true))
