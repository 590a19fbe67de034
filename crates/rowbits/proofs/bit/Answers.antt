-- `rowbits::bit` meets its contract. Assumes nothing.
use mathlib.Core.Path.{refl}
use Rattle.rowbits.specs.Bits.{bit_of}
use Rattle.rowbits.proofs.bit.Goals as goal

pub returns : goal.returns
unfolding bit_of
returns c = refl
