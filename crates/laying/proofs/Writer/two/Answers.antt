-- `laying::Writer::two` meets its contract. Assumes nothing.
use Rattle.laying.specs.Laws.{adds_then}
use Rattle.laying.proofs.Writer.two.Goals as goal

pub returns : goal.returns
returns c = adds_then c.put.ensures c.put-2.ensures
