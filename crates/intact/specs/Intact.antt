-- What every call keeps. Definitions only. Assumes nothing.
use Rattle.std.specs.Prelude.{◌≡◌, List, ℕ, ◌*◌, length}
use Rattle.records.specs.Records.{Records}
use Rattle.records.specs.Sound.{Sound}
use Rattle.edits.specs.Edits.{Whole}

-- sound records with P × B bytes of places, the tree's arrays whole
pub record Intact (z : Records) (places : List ℕ) : Type 0 where
  pub sound : Sound z
  pub size : length places ≡ z.size.places * z.size.width
  pub whole : Whole z.tree
