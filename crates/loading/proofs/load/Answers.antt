-- `loading::load` meets its contract. Assumes nothing.
use Rattle.layout.specs.Laws.{load_same}
use Rattle.loading.proofs.load.Goals as goal

pub returns : goal.returns
returns c = let (f, r) = c.requires in
    load_same _ r f.long c.load_tree.ensures c.load_numbers.ensures
