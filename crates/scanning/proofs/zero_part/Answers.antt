-- `scanning::zero_part` meets its contract. Assumes nothing.
use Rattle.basics.specs.Decide.{decides_iff}
use Rattle.scanning.specs.Zero.{zero_part}
use Rattle.scanning.proofs.zero_part.Goals as goal

pub returns : goal.returns
returns c = decides_iff c.zero.result (zero_part c.args.bytes.now c.args.from c.args.to c.requires.1) c.zero.ensures
