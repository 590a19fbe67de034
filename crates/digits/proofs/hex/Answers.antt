-- `digits::hex` meets its contract. Assumes nothing.
use Rattle.digits.specs.Digits.{high_digit, low_digit, hex}
use Rattle.laying.specs.Laws.{laying_start, laying_room, laying_next, laying_all}
use Rattle.digits.proofs.hex.Goals as goal

pub loop-byte-init : goal.loop-byte-init
loop-byte-init c = laying_start high_digit low_digit _ _ c.requires

pub two-requires : goal.two-requires
two-requires c = laying_room high_digit low_digit _ _ c.loop-byte.invariant c.loop-byte-test.true

pub loop-byte-preserved : goal.loop-byte-preserved
loop-byte-preserved c = laying_next high_digit low_digit _ _ c.loop-byte.invariant c.loop-byte-test.true c.digit.ensures c.digit-in-loop-byte.ensures c.two.ensures

pub returns : goal.returns
unfolding hex
returns c = laying_all high_digit low_digit _ _ c.loop-byte.invariant c.loop-byte-test.false
