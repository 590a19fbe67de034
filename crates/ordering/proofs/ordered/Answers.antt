-- `ordering::ordered` meets its contract. Assumes nothing.
use mathlib.Core.Path.{refl}
use Rattle.ordering.specs.Ordered.{none_noted}
use Rattle.ordering.proofs.ordered.Goals as goal

pub parents_first-requires : goal.parents_first-requires
parents_first-requires c = (refl, none_noted)
