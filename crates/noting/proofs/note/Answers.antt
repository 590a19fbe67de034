-- `noting::note` meets its contract: the entries passed are noted. Assumes nothing.
use native.Mathlib.Omega.{arith}
use Prim.Native.Nat.{◌<◌}
use lib.ListN.{length}
use Rattle.notes.proofs.Making.{noting_past, noting_next}
use Rattle.noting.proofs.note.Goals as goal
use Rattle.noting.proofs.note.Goals.{else-row-i, then-row-i}

pub loop-i-preserved : goal.loop-i-preserved
loop-i-preserved c =
    let low : c.loop-i.i < length c.args.node.now = omega (arith, c.loop-i-test.true, c.requires.2) in
    elim c.if-row-i.branch [ then-row-i w ↦ rw (w.notes-is, w.join.ensures, w.from.ensures) (noting_next _ _ low w.if-row-i.true c.loop-i.invariant) | else-row-i w ↦ rw w.notes-is (noting_past _ _ low w.if-row-i.false c.loop-i.invariant) ]
