-- `cabling::turn` meets its contract: each return cites the law of its test. Assumes nothing.
use mathlib.Core.Path.{refl, sym, ◌∙◌, ap₂}
use Rattle.cables.proofs.Laws.{row_refused, out_refused, turns}
use Rattle.cabling.specs.Cabling.{turn_by}
use Rattle.cabling.proofs.turn.Goals as goal

pub returns-then-row-ne128 : goal.returns-then-row-ne128
returns-then-row-ne128 c = row_refused _ _ _ c.if-row-ne128.true

pub returns-then-out-ne128 : goal.returns-then-out-ne128
returns-then-out-ne128 c = out_refused _ _ _ c.if-row-ne128.false c.if-out-ne128.true

pub returns-in-To : goal.returns-in-To
returns-in-To c = turns _ _ _ c.if-row-ne128.false c.if-out-ne128.false _ (c.gather.ensures ∙ sym (ap₂ turn_by c.in-To.is refl))

pub returns-in-From : goal.returns-in-From
returns-in-From c = turns _ _ _ c.if-row-ne128.false c.if-out-ne128.false _ (c.spread.ensures ∙ sym (ap₂ turn_by c.in-From.is refl))
