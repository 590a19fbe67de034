-- `touching::holds` meets its contract. Assumes nothing.
use mathlib.Core.Path.{◌∙◌, ap}
use Rattle.basics.specs.Equal.{equal}
use Rattle.touching.proofs.Pointwise.{pointwise_equal}
use Rattle.touching.proofs.holds.Goals as goal

pub returns : goal.returns
returns c = c.eq.ensures ∙ pointwise_equal _ _ ∙ ap (equal _) c.part.ensures.0
