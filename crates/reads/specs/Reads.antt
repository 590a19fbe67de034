-- What a read answers, for sound records and for others. Definitions only. Assumes nothing.
use Rattle.std.specs.Prelude.{◌≡◌, not, List, [], ◌∷◌, ℕ, ◌*◌, eqb, leb, length}
use Rattle.std.proofs.Math.Option.{Option, none, some}
use Rattle.measures.specs.Measures.{begins_at, bytes_at}
use Rattle.placing.specs.Placing.{Spot, Lies}
use Rattle.trees.specs.Trees.{version}
use Rattle.records.specs.Records.{Records, table, lives, tag_place}
use Rattle.sharing.specs.Sharing.{sharers_at}
use Rattle.soundness.specs.Judged.{Judged}
use Rattle.answers.specs.declared.Refusal.TheVariants.{BadLength, BadRow, UnknownTag, Unsound}
use Rattle.answers.specs.Answers.{Answer, handed, row, refused_of}
use Rattle.answers.specs.Tests.{Tests, refusal, unless}

-- Reading: the tests of SPEC 7.1 after 20, the bytes, and how many share them

unfoldable pub read_tests : Records → ℕ → ℕ → ℕ → Tests
read_tests z bytes tag r =
    (not (eqb bytes (z.size.places * z.size.width)), BadLength)
    ∷ (leb z.size.rows r, BadRow)
    ∷ (not (lives z tag), UnknownTag)
    ∷ []

-- the row of the version with a tag, in the lent places
unfoldable pub row_of_tag : Records → List ℕ → ℕ → ℕ → List ℕ
row_of_tag z places tag r = bytes_at z.size.width places (tag_place z tag r)

-- how many living versions share the row of the version with a tag
abbrev pub sharers_by : Records → Option ℕ → ℕ → ℕ
sharers_by z none r = 0
sharers_by z (some n) r = sharers_at z.tree (table z) n r

unfoldable pub sharers_of_tag : Records → ℕ → ℕ → ℕ
sharers_of_tag z tag r = sharers_by z (version z.tree tag) r

unfoldable pub read_answer : Records → List ℕ → ℕ → ℕ → Answer
read_answer z places tag r = unless (refusal (read_tests z (length places) tag r)) (refused_of 1) (row (row_of_tag z places tag r) (sharers_of_tag z tag r))

-- where in the places the part that is handed out begins: at the row's own place, or at their front if the read is refused
unfoldable pub part_from : Records → ℕ → ℕ → ℕ → ℕ
part_from z bytes tag r = unless (refusal (read_tests z bytes tag r)) (λ x. 0) (begins_at z.size.width (tag_place z tag r))

-- The promise of read: on sound records the answer above is handed out, on others 20
abbrev pub ReadEnds : Records → List ℕ → ℕ → ℕ → ℕ → List ℕ → ℕ → Type 0
ReadEnds z places tag r number bytes sharers =
    Judged z (handed number bytes (sharers ∷ []) ≡ read_answer z places tag r) (handed number bytes (sharers ∷ []) ≡ refused_of 1 Unsound)

-- and which part of the places, lent at `whole`, a read hands out
abbrev pub ReadPart : Records → List ℕ → ℕ → ℕ → Spot → Spot → Type 0
ReadPart z places tag r whole part = Judged z (Lies whole (part_from z (length places) tag r) part) (Lies whole 0 part)
