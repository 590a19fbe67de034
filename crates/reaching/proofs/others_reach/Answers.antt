-- `reaching::others_reach` meets its contract: node by node it is known who meets g. Assumes nothing.
use Prim.Native.Nat.{◌<◌}
use mathlib.Core.Path.{◌≡◌, refl, ◌∙◌, ap}
use mathlib.Core.Logic.{inl}
use mathlib.Core.Bool.{true, false}
use native.Mathlib.Omega.{arith}
use Rattle.basics.specs.Decide.{Decides, at, holds, fails}
use Rattle.bits.specs.Bits.{has}
use Rattle.table.specs.Rules.{slot, here}
use Rattle.ordering.specs.Ordered.{is_noted}
use Rattle.reaching.specs.Reaching.{reaching_first, reaching_met, reaching_none}
use mathlib.Core.Path.{sym}
use Rattle.reaching.specs.Reaching.{reaching_past}
use Rattle.reaching.specs.Reaching.{reaching_next}
use Rattle.reaching.proofs.others_reach.Goals as goal
use Rattle.reaching.proofs.others_reach.Goals.{else-meets_too, then-meets_too+else-another-2}

pub returns-then-another : goal.returns-then-another
returns-then-another c = let p = c.requires in
    let h = holds c.another.result c.another.ensures c.if-another.true in
    (_, ((p.2, h.0), h.1, here refl))

pub loop-j-init : goal.loop-j-init
loop-j-init c = let p = c.requires in
    rw c.from-far.ensures (reaching_first _ _ _ _ _ _ _ p.0.below p.2 (λ l x. fails c.another.result c.another.ensures c.if-another.false (l.1, x)))

pub returns-then-far-j : goal.returns-then-far-j
returns-then-far-j c = λ h.
    let p = c.requires in
    reaching_none _ _ _ _ _ _ _ p.0.below p.0.linked p.1 _ _ _ c.loop-j.invariant (inl c.if-far-j.true) h

pub returns-then-another-2 : goal.returns-then-another-2
returns-then-another-2 c = let node_low : c.from-c.result < 128 = omega (arith, c.from-c.ensures, (c.requires.1.each c.loop-j.j c.loop-j-test.true).1) in
    let parent_is : (c.from-p.result ≡ at c.args.tree.now.parent (at c.args.order.now c.loop-j.j)) = c.from-p.ensures ∙ ap (at c.args.tree.now.parent) c.from-c.ensures in
    let met : (let a = c.args in Decides c.meets_too.result ((is_noted c.loop-j.reach (at a.tree.now.parent (at a.order.now c.loop-j.j)) ≡ true) × (has a.marks.now (slot (at a.order.now c.loop-j.j) a.r.0) ≡ false))) = rw (parent_is, c.from-c.ensures) at c.meets_too.ensures in
    let h = holds c.another-then-meets_too.result c.another-then-meets_too.ensures c.if-another-2.true in
    let m = holds c.meets_too.result (met) c.if-meets_too.true in
    (_, ((node_low, h.0), h.1, rw c.from-c.ensures (reaching_met _ _ _ _ _ _ _ c.requires.0.below c.requires.1 _ _ _ c.loop-j-test.true c.loop-j.invariant m.0 m.1)))

pub loop-j-preserved : goal.loop-j-preserved
loop-j-preserved c = let parent_is : (c.from-p.result ≡ at c.args.tree.now.parent (at c.args.order.now c.loop-j.j)) = c.from-p.ensures ∙ ap (at c.args.tree.now.parent) c.from-c.ensures in
    let met : (let a = c.args in Decides c.meets_too.result ((is_noted c.loop-j.reach (at a.tree.now.parent (at a.order.now c.loop-j.j)) ≡ true) × (has a.marks.now (slot (at a.order.now c.loop-j.j) a.r.0) ≡ false))) = rw (parent_is, c.from-c.ensures) at c.meets_too.ensures in
    let p = c.requires in
    let v = c.loop-j.invariant in
    elim c.if-meets_too.branch [
      | then-meets_too+else-another-2 w ↦ let m = holds c.meets_too.result (met) w.if-meets_too.true in
          rw (w.reach-is, w.far-is, c.from-c.ensures) (reaching_next _ _ _ _ _ _ _ p.0.below p.1 _ _ _ c.loop-j-test.true v m.0 m.1
          (λ a x. fails w.another-then-meets_too.result w.another-then-meets_too.ensures w.if-another-2.false (ap (at c.args.tree.now.state) c.from-c.ensures ∙ a.1, λ q. x (sym c.from-c.ensures ∙ q)))
          _ (omega (arith, w.max-far.ensures)) (let e = w.from.ensures ∙ ap (at c.args.end.now) c.from-c.ensures in omega (arith, e, w.max-far.ensures)))
      | else-meets_too w ↦ rw (w.reach-is, w.far-is) (reaching_past _ _ _ _ _ _ _ p.0.below p.1 _ _ _ c.loop-j-test.true v (fails c.meets_too.result (met) w.if-meets_too.false))
    ]
