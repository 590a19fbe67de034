-- `nearing::hidden` meets its contract, node by node. Assumes nothing.
use Prim.Native.Nat.{ℕ}
use lib.ListN.{get_or-replicate, length-replicate}
use Rattle.nearing.specs.Near.{hidden_first}
use Rattle.nearing.proofs.hidden.Goals as goal

pub loop-g-init : goal.loop-g-init
loop-g-init c = hidden_first _ _ (length-replicate {A = ℕ} 128 0) (λ k l. get_or-replicate {A = ℕ} 128 k 0 0 l)
