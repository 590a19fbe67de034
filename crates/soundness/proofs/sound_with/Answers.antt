-- `soundness::sound_with` meets its contract: there is a mark for each node and row. Assumes nothing.
use Rattle.table.proofs.Laws.{blank_zeros}
use Rattle.soundness.proofs.sound_with.Goals as goal

pub judged-requires : goal.judged-requires
judged-requires g c = blank_zeros _ _ c.requires.room
