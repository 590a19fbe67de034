-- `hooks::order` meets its contract: the test of the whole table is computed. Assumes nothing.
use mathlib.Core.Path.{refl}
use Rattle.hooks.specs.Order.{hook_at, position_of}
use Rattle.hooks.proofs.Laws.{ordered}
use Rattle.hooks.proofs.order.Goals as goal

pub returns : goal.returns
unfolding hook_at position_of
returns c = ordered _ refl refl
