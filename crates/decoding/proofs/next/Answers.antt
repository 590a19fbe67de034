-- `decoding::next` meets its contract. Assumes nothing.
use native.Mathlib.Omega.{arith}
use mathlib.Core.Path.{sym}
use borrow.Author.Tests.{le-leb, lt-leb, lt-ltb, le-ltb, eq-eqb, ne_eqb}
use Rattle.commands.specs.Format.{step_at}
use Rattle.commands.specs.Laws.{known_number}
use Rattle.basics.specs.Decide.{at}
use Rattle.decoding.proofs.next.Goals as goal

pub returns-then-stream-p : goal.returns-then-stream-p
unfolding step_at
returns-then-stream-p c = simp (le-leb _ _ c.if-stream-p.true)

pub returns-then-n-eq0 : goal.returns-then-n-eq0
unfolding step_at
returns-then-n-eq0 c = simp (lt-leb _ _ c.if-stream-p.false, sym c.size_of-n.ensures, eq-eqb _ _ c.if-n-eq0.true)

pub returns-then-stream-p-2 : goal.returns-then-stream-p-2
unfolding step_at
returns-then-stream-p-2 c = simp (lt-leb _ _ c.if-stream-p.false, sym c.size_of-n.ensures, ne_eqb _ _ c.if-n-eq0.false, lt-ltb _ _ c.if-stream-p-2.true)

pub returns : goal.returns
unfolding step_at
returns c = let a = c.args in
    let e = c.command_of.ensures in
    let k = known_number a.width a.stream.now a.p (at a.stream.now a.p) in
    simp (lt-leb _ _ c.if-stream-p.false, sym c.size_of-n.ensures, ne_eqb _ _ c.if-n-eq0.false, le-ltb _ _ c.if-stream-p-2.false, e, k)
