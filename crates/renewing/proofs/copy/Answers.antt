-- `renewing::copy` meets its contract. Assumes nothing.
use mathlib.Core.Path.{◌∙◌}
use Rattle.renewing.specs.Laws.{copied}
use Rattle.renewing.proofs.copy.Goals as goal

pub returns : goal.returns
returns c = c.copy_within.ensures.after ∙ copied _ _ _ _ _ _ c.offset-start.ensures c.offset-dest.ensures
