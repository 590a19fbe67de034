-- `entering::entries` meets its contract: the entries passed fit and have their marks. Assumes nothing.
use mathlib.Core.Path.{◌≡◌}
use native.Mathlib.Omega.{arith}
use lib.ListN.{length}
use Rattle.table.proofs.Laws.{excepting_all}
use Rattle.entering.proofs.entries.Goals as goal

pub returns : goal.returns
returns c = let a = c.args in
    let e : c.loop-i.i ≡ length a.table.now.node.now = omega arith in
    let h = rw e at c.loop-i.invariant in
    record { decided = excepting_all _ _ h.3; marked = λ x. h.2 }
