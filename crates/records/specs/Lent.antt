-- The records that a call is lent, as those that its promise speaks of. Definitions only. Assumes nothing.
use Rattle.std.specs.Prelude.{◌≡◌, length}
use Rattle.records.specs.Records.{Records, records_of}
use Rattle.records.specs.declared.Records.{Records as Lent}
use Rattle.records.specs.declared.View.{View}

-- to be changed
abbrev pub lent : Lent → Records
lent z = records_of z.size z.tree z.node.now z.row.now

-- to be read
abbrev pub seen : View → Records
seen z = records_of z.size z.tree.now z.node.now z.row.now

-- the same memory is lent, as long as it was, and of the same measures: only the tree and what the memory holds can be another
pub record SameLent (a b : Lent) : Type 0 where
  pub size : b.size ≡ a.size
  pub node : b.node.ghost_name ≡ a.node.ghost_name
  pub row : b.row.ghost_name ≡ a.row.ghost_name
  pub nodes : length b.node.now ≡ length a.node.now
  pub rows : length b.row.now ≡ length a.row.now
