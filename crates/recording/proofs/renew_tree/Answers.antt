-- `recording::renew_tree` meets its contract. Assumes nothing.
use Rattle.layout.specs.Update.{tree_laid_anew}
use borrow.Author.Rules.{rules}
use Rattle.recording.proofs.renew_tree.Goals as goal

pub returns : goal.returns
returns c = search (rules, tree_laid_anew _ c.requires (search rules) _ (search rules) c.lay_tree.ensures.lays)
