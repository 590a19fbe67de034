-- `noting::join` meets its contract. Assumes nothing.
use mathlib.Core.Path.{sym}
use native.Mathlib.Omega.{arith}
use Rattle.notes.proofs.Making.{joined_out, joined_kept, joined_new}
use Rattle.noting.proofs.join.Goals as goal
use Rattle.noting.proofs.join.Goals.{else-n-lt128-via-then-n-lt128+else-notes-n-eq0, else-n-lt128-via-else-n-lt128}

pub returns-then-notes-n-eq0 : goal.returns-then-notes-n-eq0
returns-then-notes-n-eq0 c = sym (joined_new _ _ _ _ (omega arith) (omega arith))

pub returns-else-n-lt128 : goal.returns-else-n-lt128
returns-else-n-lt128 c = elim c.else-n-lt128.branch [ else-n-lt128-via-then-n-lt128+else-notes-n-eq0 w ↦ sym (joined_kept _ _ _ _ w.if-notes-n-eq0.false) | else-n-lt128-via-else-n-lt128 w ↦ sym (joined_out _ _ _ _ w.if-n-lt128.false) ]
