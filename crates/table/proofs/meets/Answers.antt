-- `table::meets` meets its contract: the node reached meets g if and only if n does, and no climb has 128 steps. Assumes nothing.
use mathlib.Core.Path.{◌≡◌, sym, ◌∙◌}
use native.Mathlib.Omega.{arith}
use Rattle.table.proofs.Laws.{meets_up, climb_ends}
use Rattle.table.specs.Rules.{here}
use Rattle.tree.specs.Loops.{climb_start, climb_step}
use Rattle.table.proofs.meets.Goals as goal

pub loop-k-init : goal.loop-k-init
loop-k-init c = (climb_start _ _ c.requires.used, (λ d. d, λ d. d))

pub returns-then-m-g : goal.returns-then-m-g
returns-then-m-g c = c.loop-k.invariant.1.1 (here c.if-m-g.true)

pub loop-k-preserved : goal.loop-k-preserved
loop-k-preserved c = let a = c.args in
    let v = c.loop-k.invariant in
    let h = meets_up _ a.marks.now _ _ c.if-m-g.false c.if-m-eq0.false (rw c.slot.ensures at (sym c.has.ensures ∙ c.if-has.false)) in
    rw c.from-m.ensures (
      climb_step _ _ _ _ (λ n k. c.requires.seeking.linked.parent n) c.loop-k-test.true c.if-m-eq0.false v.0,
      (λ d. h.0 (v.1.0 d), λ d. v.1.1 (h.1 d)),
    )

pub returns : goal.returns
returns c = λ d.
    let e : c.loop-k.k ≡ 128 = omega arith in
    let p = c.requires in
    climb_ends _ _ _ p.seeking.linked p.used (rw e at c.loop-k.invariant.0)
