-- `serving::show` meets its contract. Assumes nothing.
use Rattle.std.proofs.Common.{ap}
use Rattle.records.specs.Records.{Records}
use Rattle.serving.proofs.show.Goals as goal

pub read-requires : goal.read-requires
read-requires c = rw (ap (λ (z : Records). z.size) c.view.ensures) c.requires

pub returns-clause-shown : goal.returns-clause-shown
returns-clause-shown c = rw c.view.ensures at c.read.ensures.answers
