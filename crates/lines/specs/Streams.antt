-- The promise of a run. Definitions only. Assumes nothing.
use Rattle.std.specs.Prelude.{◌≡◌, ◌≢◌, not, List, [], ◌∷◌, ℕ, ◌*◌, eqb, ltb, length}
use Rattle.records.specs.Records.{Records}
use Rattle.answers.specs.declared.Refusal.TheVariants.{BadLength, LongStream, Unsound}
use Rattle.answers.specs.Answers.{number}
use Rattle.answers.specs.Tests.{Tests, refusal, verdict_number}
use Rattle.model.specs.Model.{Model}
use Rattle.soundness.specs.Judged.{Judged}
use Rattle.steps.specs.Calls.{Runs}
use Rattle.progress.specs.Replying.{line_room}
use Rattle.lines.specs.Output.{RanAll}

-- The promise of a run: on sound records 2 where the places have another length, 8 where the stream has over 4,096 bytes, 2 where the lines might not
-- fit, and then nothing has changed; else the output of every model that agrees with the store. On other records 20, and nothing has changed.

-- by the lengths of the places, of the stream and of what is lent for the text
unfoldable pub run_tests : Records → ℕ → ℕ → ℕ → Tests
run_tests z places stream out =
    (not (eqb places (z.size.places * z.size.width)), BadLength)
    ∷ (ltb 4096 stream, LongStream)
    ∷ (ltb out (line_room z.size.width * stream), BadLength)
    ∷ []

pub record Kept (z : Records) (places out : List ℕ) (z' : Records) (places' out' : List ℕ) (to : ℕ) : Type 0 where
  pub records : z' ≡ z
  pub bytes : places' ≡ places
  pub text : out' ≡ out
  pub ends : to ≡ 0

pub record StreamRun (z : Records) (places s out : List ℕ) (answer : ℕ) (z' : Records) (places' out' : List ℕ) (to : ℕ) : Type 0 where
  pub number : answer ≡ verdict_number (refusal (run_tests z (length places) (length s) (length out)))
  pub refused : answer ≢ 0 → Kept z places out z' places' out' to
  pub accepted : answer ≡ 0 → (m : Model) → Runs z places m → RanAll z places s out z' places' out' to m

abbrev pub StreamEnds : Records → List ℕ → List ℕ → List ℕ → ℕ → Records → List ℕ → List ℕ → ℕ → Type 0
StreamEnds z places s out answer z' places' out' to =
    Judged z (StreamRun z places s out answer z' places' out' to) ((answer ≡ number Unsound) × Kept z places out z' places' out' to)
