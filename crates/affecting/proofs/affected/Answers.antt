-- `affecting::affected` meets its contract: going up, what is passed gets a 1. Assumes nothing.
use Rattle.std.specs.Prelude.{Bool, false}
use mathlib.Core.Path.{◌≡◌}
use native.Mathlib.Omega.{arith}
use lib.ListN.{length-replicate}
use Rattle.tree.specs.Loops.{climb_step}
use Rattle.affecting.specs.Affected.{passing_first, passing_next, passing_end, climb_first, climb_other, climb_short}
use Rattle.affecting.proofs.affected.Goals as goal

pub loop-k-init : goal.loop-k-init
loop-k-init c = let p = c.requires.2 in (climb_first _ _ p, passing_first _ _ _ (length-replicate {A = Bool} 128 false), p.0)

pub returns-then-tree-m-eq1 : goal.returns-then-tree-m-eq1
returns-then-tree-m-eq1 c = let p = c.requires in
    let (k, q, z) = c.loop-k.invariant in
    let h = climb_step _ _ _ _ (λ m b. p.1.parent m) c.loop-k-test.true z k in
    passing_end _ _ _ _ (h.used.0, rw c.from-m.ensures at c.if-tree-m-eq1.true) (climb_other _ _ _ _ p.0 p.1 p.2 h) (passing_next _ _ _ _ k.used.0 q)

pub loop-k-preserved : goal.loop-k-preserved
loop-k-preserved c = let p = c.requires in
    let (k, q, z) = c.loop-k.invariant in
    rw c.from-m.ensures (
      climb_step _ _ _ _ (λ m b. p.1.parent m) c.loop-k-test.true z k,
      passing_next _ _ _ _ k.used.0 q,
      λ x. c.if-tree-m-eq1.false (rw (c.from-m.ensures, x) p.0.root.0),
    )

pub returns : goal.returns
returns c = let p = c.requires in
    let (k, q, z) = c.loop-k.invariant in
    let e : c.loop-k.k ≡ 128 = omega (arith, k.most, c.loop-k-test.false) in
    absurd (climb_short _ _ _ p.1 p.2 (rw e at k))
