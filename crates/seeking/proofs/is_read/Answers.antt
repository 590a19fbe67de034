-- `seeking::is_read` meets its contract. Assumes nothing.
use mathlib.Core.Path.{sym, ap}
use native.Mathlib.Omega.{arith}
use Rattle.table.proofs.Laws.{read_own, met_read}
use Rattle.basics.specs.Decide.{at, decides_iff}
use Rattle.seeking.proofs.is_read.Goals as goal

pub returns-then-tree-g-eq1 : goal.returns-then-tree-g-eq1
returns-then-tree-g-eq1 c = read_own _ _ c.args.marks.now c.requires.1 c.args.i c.requires.0 (omega (arith, ap (at c.args.tree.now.state) c.from-g.ensures, c.if-tree-g-eq1.true))

pub returns : goal.returns
returns c = decides_iff c.seen.result (met_read _ _ c.args.marks.now c.requires.1 _ _ c.args.i c.if-g-eq0.false (c.requires.0, sym c.from-g.ensures, sym c.from.ensures)) c.seen.ensures
