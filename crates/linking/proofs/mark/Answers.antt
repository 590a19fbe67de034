-- `linking::mark` meets its contract: whatever it passes reaches node 0. Assumes nothing.
use mathlib.Core.Path.{sym, ◌∙◌, ap}
use mathlib.Core.Logic.{◌≢◌, inl, inr, ⊎_elim}
use native.Mathlib.Omega.{arith}
use Prim.Native.Nat.{ℕ}
use Rattle.std.specs.Prelude.{false, get_or}
use Rattle.std.proofs.lemmas.Bool.{false≢true}
use Rattle.linking.specs.Known.{known_next, known_stays, reaches_above}
use Rattle.linking.proofs.mark.Goals as goal

pub loop-steps-preserved : goal.loop-steps-preserved
loop-steps-preserved c = let v = c.loop-steps.invariant in
    let z : c.loop-steps.m ≢ 0 = λ e. false≢true (sym c.if-known-m.false ∙ ap (λ (i : ℕ). get_or c.loop-steps.known i false) e ∙ v.3.root) in
    (omega arith, rw c.from-m.ensures (c.requires.0.parents _ v.1.0 z v.1), rw c.from-m.ensures (reaches_above _ _ z v.2), known_next _ _ _ v.1.0 v.2 v.3, inr (known_stays _ _ _ _ v.1.0 v.3 (⊎_elim (λ e. inl e.1) (λ x. inr x) v.4)))
