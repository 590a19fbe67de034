-- `recording::renew` meets its contract. Assumes nothing.
use Rattle.layout.specs.Update.{rows_laid_anew}
use borrow.Author.Rules.{rules}
use Rattle.recording.proofs.renew.Goals as goal

pub returns : goal.returns
returns c = search (rules, rows_laid_anew _ c.requires.0 (search rules) _ (search rules) _ c.requires.1 c.lay_tree.ensures.lays c.lay_numbers.ensures.lays)
