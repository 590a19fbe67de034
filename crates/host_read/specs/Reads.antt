-- What a read answers and leaves in the bytes and the number lent for the row, the records being bytes. Definitions only. Assumes nothing.
use Rattle.std.specs.Prelude.{◌≡◌, not, cond, List, [], ◌∷◌, ℕ, ◌*◌, eqb, leb, length}
use Rattle.records.specs.Records.{Records, lives}
use Rattle.answers.specs.declared.Refusal.TheVariants.{BadLength, BadRow, UnknownTag}
use Rattle.answers.specs.Tests.{Tests, refusal}
use Rattle.reads.specs.Reads.{row_of_tag, sharers_of_tag}
use Rattle.layout.specs.Layout.{loaded}
use Rattle.host.specs.Host.{HostEnds}

unfoldable pub read_tests : Records → ℕ → ℕ → ℕ → ℕ → Tests
read_tests z places out tag r =
    (not (eqb places (z.size.places * z.size.width)), BadLength)
    ∷ (not (eqb out z.size.width), BadLength)
    ∷ (leb z.size.rows r, BadRow)
    ∷ (not (lives z tag), UnknownTag)
    ∷ []

-- how a row that was read goes into those bytes: the read's number, but 2 where they have another length, and 20 before it
unfoldable pub copy_number : ℕ → ℕ → ℕ → ℕ
copy_number width number out = cond (eqb number 20) 20 (cond (not (eqb out width)) 2 number)

pub record Copied (width number : ℕ) (bytes : List ℕ) (seen : ℕ) (out : List ℕ) (answer : ℕ) (out' : List ℕ) (sharers : ℕ) : Type 0 where
  pub numbered : answer ≡ copy_number width number (length out)
  pub filled : out' ≡ cond (eqb answer 0) bytes out
  pub told : sharers ≡ cond (eqb answer 0) seen 0

-- what is lent to be filled: the row and how many share it, or the bytes as they were and 0
abbrev pub HostReads : List ℕ → List ℕ → ℕ → ℕ → List ℕ → ℕ → List ℕ × ℕ → Type 0
HostReads b places tag r out = HostEnds b (refusal (read_tests (loaded b) (length places) (length out) tag r)) (out, 0) (row_of_tag (loaded b) places tag r, sharers_of_tag (loaded b) tag r)
