-- `digits::hex` meets its contract. Assumes nothing.
use Rattle.digits.specs.Digits.{high_digit, low_digit}
use Rattle.laying.specs.Laws.{Laying}
use Rattle.digits.proofs.hex.Given as goal

abbrev pub invariant-loop-byte : goal.invariant-loop-byte
invariant-loop-byte l = Laying high_digit low_digit l.bytes l.initial.out l.out l.byte-index
