-- `scanning::zero` meets its contract: the greatest byte is found. Assumes nothing.
use Rattle.scanning.specs.Zero.{Greatest}
use Rattle.scanning.proofs.zero.Given as goal

abbrev pub invariant-loop-byte : goal.invariant-loop-byte
invariant-loop-byte l = Greatest l.bytes l.byte-index l.most
