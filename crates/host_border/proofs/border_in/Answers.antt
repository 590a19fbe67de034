-- `host_border::border_in` meets its contract. Assumes nothing.
use borrow.Author.Rules.{rules}
use Prim.Native.Nat.{ℕ, ◌<◌, ◌+◌, ◌-◌}
use mathlib.Core.List.{List, ◌++◌}
use mathlib.Core.Path.{◌≡◌, sym, ◌∙◌, ap}
use native.Mathlib.Omega.{arith}
use lib.ListN.{length, take, drop}
use Rattle.basics.specs.Decide.{at}
use Rattle.layout.specs.Layout.{entries, size_at, table_at, Fits}
use Rattle.layout.specs.Laws.{nodes_part}
use Rattle.layout.specs.Update.{nodes_changed}
use Rattle.host_border.specs.Laws.{border_host}
use Rattle.host_border.proofs.border_in.Goals as goal

pub keep_done-requires : goal.keep_done-requires
keep_done-requires g c = let low : (i : ℕ) → at c.args.records.now i < 256 = search rules in
    let y = c.requires.fits in
    let r = nodes_changed y.0 low y.1 c.border_parts-ended.new.node (omega arith) in
    record { fits = r.fits; rows = omega (arith, y.1, ap entries r.size) }

pub returns : goal.returns
returns g c = let low : (i : ℕ) → at c.args.records.now i < 256 = search rules in
    let y = c.requires.fits in
    border_host y.0 low c.size-size.ensures c.load-tree.ensures _ _ _ _ c.border_parts-ended.ensures (nodes_part c.args.records.now {n = c.args.n} y.1) (nodes_changed y.0 low y.1 c.border_parts-ended.new.node (omega arith)) c.keep_done.ensures
