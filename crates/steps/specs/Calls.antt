-- A store that runs, in agreement with the reference model. Assumes nothing.
use Rattle.std.specs.Prelude.{List, ℕ}
use Rattle.records.specs.Records.{Records}
use Rattle.model.specs.Model.{Model}
use Rattle.edits.specs.Edits.{Whole}
use Rattle.view.specs.View.{Store, Agrees}

-- a store that runs: sound, with all its bytes, its arrays whole, and in agreement with the model
pub record Runs (z : Records) (places : List ℕ) (m : Model) : Type 0 where
  pub store : Store z places
  pub whole : Whole z.tree
  pub agrees : Agrees z places m
