-- `sharing::readers_in` meets its contract: of those passed, all that read the row from the place are counted. Assumes nothing.
use mathlib.Core.Path.{◌≡◌}
use native.Mathlib.Omega.{arith}
use Prim.Native.Nat.{◌<◌}
use mathlib.Core.Path.{sym}
use mathlib.Core.Path.{◌∙◌}
use Rattle.sharing.specs.Laws.{counted_yes}
use Rattle.sharing.specs.Laws.{counted_no}
use Rattle.std.proofs.Common.{eqb-true}
use Rattle.std.proofs.lemmas.Bool.{eqb-false}
use Rattle.sharing.proofs.readers_in.Goals as goal
use Rattle.sharing.proofs.readers_in.Goals.{else-tree-n-eq1, then-tree-n-eq1+else-eq, then-tree-n-eq1+then-eq}

pub loop-n-preserved : goal.loop-n-preserved
loop-n-preserved c = let low : c.loop-n.n < 128 = omega (arith, c.loop-n-test.true, c.requires.2) in
    let h = c.loop-n.invariant in
    let p = c.args.p.0 in
    elim c.if-tree-n-eq1.branch [
      | then-tree-n-eq1+then-eq w ↦ let same : p ≡ w.climb-q.result.0 = eqb-true _ _ (sym w.eq.ensures ∙ w.if-eq.true) in
          rw w.sum-is (counted_yes _ _ _ _ low h w.if-tree-n-eq1.true (λ e d. same ∙ w.climb-q.ensures e d))
      | then-tree-n-eq1+else-eq w ↦ let other : p ≡ w.climb-q.result.0 → ⊥ = eqb-false _ _ (sym w.eq.ensures ∙ w.if-eq.false) in
          rw w.sum-is (counted_no _ _ _ _ low h (λ a e d q. other (sym q ∙ sym (w.climb-q.ensures e d))))
      | else-tree-n-eq1 w ↦ rw w.sum-is (counted_no _ _ _ _ low h (λ a. absurd (w.if-tree-n-eq1.false a)))
    ]
