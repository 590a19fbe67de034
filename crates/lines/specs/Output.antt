-- What a whole stream of commands gets for text, and what it leaves of the store. Definitions only. Assumes nothing.
use Rattle.std.specs.Prelude.{◌≡◌, List, ℕ, length}
use Rattle.measures.specs.declared.Size.{Size}
use Rattle.records.specs.Records.{Records}
use Rattle.model.specs.Model.{Model, final}
use Rattle.theorem.specs.Trace.{state, left_by}
use Rattle.steps.specs.Calls.{Runs}
use Rattle.laying.specs.Laid.{Lays}
use Rattle.commands.specs.Format.{calls}
use Rattle.lines.specs.Lines.{text_from}

module _ (z : Size) (s : List ℕ) where
  -- the whole output for a stream on a store that a model has
  abbrev pub output : Model → List ℕ
  output m = text_from z s (length s) 1 m 0

  abbrev pub last_model : Model → Model
  last_model m = final z m (calls z.width s)

-- A whole stream: its output was laid at the front; records and places are those that its calls leave, one after the other, to the last byte; and
-- the store is one that the last model has
pub record RanAll (z : Records) (places s out : List ℕ) (z' : Records) (places' out' : List ℕ) (to : ℕ) (m : Model) : Type 0 where
  pub lays : Lays out 0 (output z.size s m) out' to
  pub leaves : state z' places' ≡ left_by (state z places) (calls z.size.width s)
  pub runs : Runs z' places' (last_model z.size s m)
