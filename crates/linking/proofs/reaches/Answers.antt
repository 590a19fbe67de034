-- `linking::reaches` meets its contract: the climb either meets a known node or is longer than any path to node 0. Assumes nothing.
use mathlib.Core.Path.{◌≡◌, sym, ◌∙◌, ap}
use Prim.Native.Nat.{ℕ}
use Rattle.std.specs.Prelude.{false, get_or}
use Rattle.std.proofs.lemmas.Bool.{false≢true}
use native.Mathlib.Omega.{arith}
use Rattle.tree.specs.Loops.{climb_start, climb_step, climb_over}
use Rattle.linking.specs.Known.{climb_reaches}
use Rattle.linking.proofs.reaches.Goals as goal

pub loop-k-init : goal.loop-k-init
loop-k-init c = climb_start _ _ c.requires.0.used

pub returns-then-known-node : goal.returns-then-known-node
returns-then-known-node c = climb_reaches _ _ _ _ c.loop-k.invariant (c.requires.1.reaches _ c.loop-k.invariant.used.0 c.if-known-node.true)

pub loop-k-preserved : goal.loop-k-preserved
loop-k-preserved c = let p = c.requires in
    rw c.from-node.ensures (climb_step _ _ _ _ p.0.parents c.loop-k-test.true (λ e. false≢true (sym c.if-known-node.false ∙ ap (λ (i : ℕ). get_or c.args.known.now i false) e ∙ p.1.root)) c.loop-k.invariant)

pub returns : goal.returns
returns c = let e : c.loop-k.k ≡ 128 = omega arith in climb_over _ _ _ c.requires.0 (rw e at c.loop-k.invariant)
