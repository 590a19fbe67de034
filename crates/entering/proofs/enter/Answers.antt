-- `entering::enter` meets its contract: an exception is good if it names a node in use and a row and they have no mark yet. Assumes nothing.
use mathlib.Core.Path.{◌≡◌, sym, ◌∙◌}
use Prim.Native.Nat.{ℕ, ◌<◌}
use native.Mathlib.Omega.{arith}
use Rattle.basics.specs.Decide.{at}
use Rattle.trees.specs.Trees.{entries_of}
use Rattle.trees.specs.Reading.{Owns}
use Rattle.table.proofs.Laws.{entered_new}
use Rattle.basics.specs.Decide.{holds}
use Rattle.entering.proofs.enter.Goals as goal

pub returns : goal.returns
returns c = let own_row : (r : ℕ) →
    at c.args.table.now.row.now c.args.i ≡ r → Owns (entries_of c.args.table.now) c.from-n.result r c.args.i = λ r e. (c.requires.0, sym c.from-n.ensures, e) in
    let low : c.from.result < c.args.table.now.rows = omega (arith, holds c.is_below.result c.is_below.ensures c.if-not-is_below.false) in
    let m = c.args.marks.now in
    rw (c.join.ensures, c.slot-k.ensures) (entered_new _ _ m _ c.requires.1 _ _ c.if-n-eq0.false (own_row _ (sym c.from.ensures)) (omega (arith, c.if-n-ge128.false), c.if-tree-n-eq0.false) (low) (rw c.slot-k.ensures at (sym c.has.ensures ∙ c.if-has.false)))
