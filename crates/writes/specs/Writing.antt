-- What a write answers and leaves: the tests of SPEC 7.1 after 20, and the four things it may change. Definitions only. Assumes nothing.
use Rattle.std.specs.Prelude.{◌≡◌, not, List, ◌∷◌, ℕ, ◌*◌, eqb, leb, length}
use Rattle.std.proofs.Math.Option.{Option, none, some}
use Rattle.records.specs.Records.{Records, lives}
use Rattle.trees.specs.Trees.{version}
use Rattle.answers.specs.declared.Refusal.{Refusal}
use Rattle.answers.specs.declared.Refusal.TheVariants.{BadLength, BadRow, UnknownTag, Unsound}
use Rattle.answers.specs.Answers.{number}
use Rattle.answers.specs.Tests.{Tests, refusal}
use Rattle.soundness.specs.Judged.{Judged, Leaves}
use Rattle.owning.specs.Owning.{Held, held}
use Rattle.writes.specs.Touching.{saved_at, room_test}

-- The tests

unfoldable pub write_tests : Records → List ℕ → ℕ → ℕ → List ℕ → Tests
write_tests z places tag r bs =
    (not (eqb (length places) (z.size.places * z.size.width)), BadLength)
    ∷ (not (eqb (length bs) z.size.width), BadLength)
    ∷ (leb z.size.rows r, BadRow)
    ∷ (not (lives z tag), UnknownTag)
    ∷ room_test z places (version z.tree tag) r bs

unfoldable pub write_verdict : Records → List ℕ → ℕ → ℕ → List ℕ → Option Refusal
write_verdict z places tag r bs = refusal (write_tests z places tag r bs)

-- The effect

module _ (z : Records) (places : List ℕ) (r : ℕ) (bs : List ℕ) where
  abbrev pub written_by : Option ℕ → Held
  written_by none = held z.tree z.node z.row places
  written_by (some v) = saved_at z places r bs v

-- what the records and places are after a write of row r of the version with a tag
unfoldable pub written : Records → List ℕ → ℕ → ℕ → List ℕ → Held
written z places tag r bs = written_by z places r bs (version z.tree tag)

-- The promise of a write: on sound records the tests' number and what is written, or all as it was; on others 20, and all as it was
abbrev pub WriteEnds : Records → List ℕ → ℕ → ℕ → List ℕ → ℕ → Held → Type 0
WriteEnds z places tag r bs answer got =
    Judged z (Leaves (write_verdict z places tag r bs) (held z.tree z.node z.row places) (written z places tag r bs) answer got)
    ((answer ≡ number Unsound) × (got ≡ held z.tree z.node z.row places))
