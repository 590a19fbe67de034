-- `host_border::keep_done` meets its contract. Assumes nothing.
use borrow.Author.Tests.{eq-eqb, ne_eqb}
use Rattle.host_border.proofs.keep_done.Goals as goal

pub returns-then-done-eq0 : goal.returns-then-done-eq0
returns-then-done-eq0 c = rw (eq-eqb _ 0 c.if-done-eq0.true)

pub returns : goal.returns
returns c = rw (ne_eqb _ 0 c.if-done-eq0.false) c.renew.ensures
