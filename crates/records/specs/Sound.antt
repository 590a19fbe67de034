-- Sound records: the seven rules of SPEC 4.1 to 4.7, in their order, and nothing else. Definitions only. Assumes nothing.
use Rattle.std.specs.Prelude.{◌≡◌, ◌-◌, length}
use Rattle.measures.specs.Measures.{Within}
use Rattle.trees.specs.Rules.{States, Linked, Tagged, Branching, Excepting, AllRead}
use Rattle.records.specs.Records.{Records, table}

-- 1. The sizes keep to their limits, and the table's halves have an entry for each place past the origin's.
pub record Measured (z : Records) : Type 0 where
  pub within : Within z.size
  pub nodes : length z.node ≡ z.size.places - z.size.rows
  pub rows : length z.row ≡ z.size.places - z.size.rows

pub record Sound (z : Records) : Type 0 where
  pub measured : Measured z
  pub states : States z.tree
  pub linked : Linked z.tree
  pub tagged : Tagged z.tree
  pub branching : Branching z.tree
  pub excepting : Excepting z.tree (table z)
  pub all_read : AllRead z.tree (table z)
