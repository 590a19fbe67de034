-- `host_write::write_in` meets its contract. Assumes nothing.
use borrow.Author.Rules.{rules}
use Prim.Native.Nat.{ℕ, ◌<◌}
use mathlib.Core.Path.{ap}
use native.Mathlib.Omega.{arith}
use Rattle.std.proofs.lemmas.Result.{err_from_is_err_and}
use Rattle.basics.specs.Decide.{at}
use Rattle.layout.specs.Layout.{entries}
use Rattle.layout.specs.Laws.{nodes_part}
use Rattle.layout.specs.Update.{nodes_changed}
use Rattle.host.specs.Laws.{kept_refused, kept_done}
use Rattle.host_write.specs.Laws.{write_host}
use Rattle.host_write.proofs.write_in.Goals as goal

pub returns-in_err-write_parts : goal.returns-in_err-write_parts
returns-in_err-write_parts g c = let low : (i : ℕ) → at c.args.records.now i < 256 = search rules in
    let y = c.requires.fits in
    let p = err_from_is_err_and c.from_residual.result c.from_residual.ensures.1 in
    rw (p.1, p.2) (write_host y.0 low c.size-size.ensures c.load-tree.ensures _ _ _ _ c.in_err-write_parts.ensures (nodes_part c.args.records.now {n = c.args.n} y.1) (nodes_changed y.0 low y.1 c.write_parts.new.node (omega arith)) (kept_refused _ _ _))

pub renew-requires : goal.renew-requires
renew-requires g c = let low : (i : ℕ) → at c.args.records.now i < 256 = search rules in
    let y = c.requires.fits in
    let r = nodes_changed y.0 low y.1 c.write_parts.new.node (omega arith) in
    (r.fits, omega (arith, y.1, ap entries r.size))

pub returns : goal.returns
returns g c = let low : (i : ℕ) → at c.args.records.now i < 256 = search rules in
    let y = c.requires.fits in
    write_host y.0 low c.size-size.ensures c.load-tree.ensures _ _ _ _ c.in_ok-write_parts.ensures (nodes_part c.args.records.now {n = c.args.n} y.1) (nodes_changed y.0 low y.1 c.write_parts.new.node (omega arith)) (kept_done c.renew.ensures)
