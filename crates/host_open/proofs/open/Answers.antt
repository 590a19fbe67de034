-- `host_open::open` meets its contract. Assumes nothing.
use mathlib.Core.Path.{sym, ◌∙◌}
use Rattle.basics.specs.Decide.{holds, fails}
use Rattle.host_open.specs.Laws.{open_size, open_places, open_records, open_done}
use Rattle.host_open.proofs.open.Goals as goal

pub returns-then-not-within : goal.returns-then-not-within
returns-then-not-within c = open_size _ _ _ (fails _ c.within.ensures c.if-not-within.true)

pub returns-then-places-size : goal.returns-then-places-size
returns-then-places-size c = open_places _ _ _ (holds _ c.within.ensures c.if-not-within.false) c.if-places-size.true

pub returns-then-records-records_size : goal.returns-then-records-records_size
returns-then-records-records_size c = open_records _ _ _ (holds _ c.within.ensures c.if-not-within.false) c.if-places-size.false (λ e. c.if-records-records_size.true (e ∙ sym c.records_size.ensures))

pub returns : goal.returns
returns c = open_done _ _ _ (holds _ c.within.ensures c.if-not-within.false) c.if-places-size.false (c.if-records-records_size.false ∙ c.records_size.ensures) c.lay_first.ensures c.clear.ensures
