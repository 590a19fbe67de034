-- `sharing::lookup` meets its contract: the notes are the row's. Assumes nothing.
use Rattle.sharing.specs.Sharing.{sharers_at}
use Rattle.sharing.proofs.lookup.Goals as goal

pub returns : goal.returns
unfolding sharers_at
returns c = let noted = c.notes-notes.ensures in
    let place = c.climb-place.ensures _ noted in
    record { place = place; sharers = rw place at (c.readers-sharers.ensures _ noted) }
