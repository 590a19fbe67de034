-- `climbing::climb` meets its contract: what the node reads is what the node above it reads. Assumes nothing.
use Rattle.notes.proofs.Rising.{rise_start, rise_root, rise_own, rise_up, rise_over}
use Rattle.climbing.proofs.climb.Goals as goal

pub loop-k-init : goal.loop-k-init
loop-k-init c = rise_start _ _ _ _ c.requires.used

pub returns-then-m-eq0 : goal.returns-then-m-eq0
returns-then-m-eq0 c = rise_root _ _ _ _ c.loop-k.invariant c.if-m-eq0.true c.home.ensures

pub returns-then-note-ne0 : goal.returns-then-note-ne0
returns-then-note-ne0 c = rise_own _ _ _ _ c.loop-k-test.true c.loop-k.invariant c.if-m-eq0.false c.if-note-ne0.true c.told.ensures

pub loop-k-preserved : goal.loop-k-preserved
loop-k-preserved c = let v = c.loop-k.invariant in
    rw c.from-above.ensures (rise_up _ _ _ _ c.loop-k-test.true v c.if-m-eq0.false c.if-note-ne0.false (c.requires.parents _ v.used.0 c.if-m-eq0.false v.used))

pub returns : goal.returns
returns c = rise_over _ _ _ _ c.loop-k-test.false c.loop-k.invariant c.home-2.ensures
