-- `rules::table_sound` meets its contract: rule 6 begins with no mark. Assumes nothing.
use Rattle.table.proofs.Laws.{entering_first}
use Rattle.rules.proofs.table_sound.Goals as goal

pub entries-requires : goal.entries-requires
entries-requires c = let p = c.requires in entering_first _ _ p.0.halves p.0.few p.1
