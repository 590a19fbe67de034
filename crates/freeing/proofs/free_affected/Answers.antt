-- `freeing::free_affected` meets its contract: the entries below i are done, the others as they were. Assumes nothing.
use Prim.Native.Nat.{◌<◌}
use mathlib.Core.Path.{◌∙◌, sym}
use native.Mathlib.Omega.{arith}
use lib.ListN.{length}
use Rattle.std.proofs.Common.{length-set}
use Rattle.basics.specs.Decide.{holds, fails}
use Rattle.freeing.specs.Laws.{freed_next, freed_end, freed_skip, freed_set, alone_lonely, alone_not, unaffected_not}
use Rattle.freeing.proofs.free_affected.Goals as goal
use Rattle.freeing.proofs.free_affected.Goals.{then-affected-g+then-alone, then-affected-g+else-alone, else-affected-g}

pub returns-clause-freed : goal.returns-clause-freed
returns-clause-freed c = let d = c.loop-i.invariant.2 in
    freed_end _ _ _ c.loop-i.i _ _ (omega (arith, c.loop-i-test.false, d.nodes)) d

pub loop-i-preserved : goal.loop-i-preserved
loop-i-preserved c = let (s, k, d) = c.loop-i.invariant in
    let p = c.requires in
    let i = c.loop-i.i in
    let x = freed_next _ _ _ _ _ _ d in
    let l : i < length c.args.records.now.node.now = omega (arith, c.loop-i-test.true, d.nodes) in
    elim c.if-affected-g.branch [
      | then-affected-g+then-alone w ↦ rw w.records-is (record { size = s.size; node = s.node; row = s.row; nodes = length-set _ i 0 ∙ s.nodes; rows = length-set _ i 0 ∙ s.rows }, k, freed_set _ _ _ i _ _ d (omega (arith, l, d.nodes)) (d.rows ∙ p.1.fitting.halves ∙ sym d.nodes) (alone_lonely _ _ _ p.1 _ p.0 i l (holds w.alone.result (rw (c.from-g.ensures ∙ x.0, w.from.ensures ∙ x.1) at w.alone.ensures) w.if-alone.true)))
      | then-affected-g+else-alone w ↦ rw w.records-is (s, k, freed_skip _ _ _ i _ _ d (alone_not _ _ _ p.1 _ p.0 i l (fails w.alone.result (rw (c.from-g.ensures ∙ x.0, w.from.ensures ∙ x.1) at w.alone.ensures) w.if-alone.false)))
      | else-affected-g w ↦ rw w.records-is (s, k, freed_skip _ _ _ i _ _ d (unaffected_not _ _ _ p.1 _ p.0 i l _ p.2 (rw (c.from-g.ensures ∙ x.0) at w.if-affected-g.false)))
    ]
