-- `laying::load_few` meets its contract: stretch by stretch. Assumes nothing.
use Prim.Native.Nat.{◌*◌}
use mathlib.Core.Path.{◌∙◌}
use native.Mathlib.Omega.{arith}
use Rattle.laying.specs.Laws.{load_start, load_past, load_all, zeros_at}
use Rattle.laying.proofs.load_few.Goals as goal

pub loop-j-init : goal.loop-j-init
loop-j-init c = let p = c.requires in (p.1, load_start _ _ (omega (arith, p.0, p.1)), λ k l. p.2 k l ∙ zeros_at 128 k)

pub returns : goal.returns
returns c = let v = c.loop-j.invariant in
    let b = c.few_to-j-end.ensures in
    load_all _ _ 128 (omega (arith, v.0)) (load_past _ _ (16 * c.loop-j.j) 128 (omega (arith, b.step.1, b.most)) (omega (arith, v.0)) (λ m l h. b.idle m (omega (arith, c.loop-j-test.false, b.step.1, l)) h) v.2 v.1)
