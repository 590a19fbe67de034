-- What a border answers and leaves: the tests of SPEC 7.1 after 20, then single writes in the order of its rows. Definitions only. Assumes nothing.
use Rattle.std.specs.Prelude.{◌≡◌, not, List, [], ◌∷◌, ℕ, ◌*◌, eqb, leb, length}
use Rattle.std.proofs.Math.Option.{Option}
use Rattle.measures.specs.declared.Size.{Size}
use Rattle.measures.specs.Measures.{rows_with}
use Rattle.records.specs.Records.{Records, records_of, lives}
use Rattle.answers.specs.declared.Refusal.{Refusal}
use Rattle.answers.specs.declared.Refusal.TheVariants.{TooManyRows, BadLength, UnknownTag, Unsound}
use Rattle.answers.specs.Tests.{Tests, refusal, unless, verdict_number}
use Rattle.answers.specs.InOrder.{Ended, stopped, in_order}
use Rattle.soundness.specs.Judged.{Judged}
use Rattle.owning.specs.Owning.{Held, held}
use Rattle.writes.specs.Writing.{write_verdict, written}

-- The tests

unfoldable pub border_tests : Records → List ℕ → ℕ → List ℕ → List ℕ → Tests
border_tests z places tag rows bytes =
    (leb 65 (length rows), TooManyRows)
    ∷ (not (eqb (length places) (z.size.places * z.size.width)), BadLength)
    ∷ (not (eqb (length bytes) (length rows * z.size.width)), BadLength)
    ∷ (not (lives z tag), UnknownTag)
    ∷ []

unfoldable pub border_verdict : Records → List ℕ → ℕ → List ℕ → List ℕ → Option Refusal
border_verdict z places tag rows bytes = refusal (border_tests z places tag rows bytes)

-- The effect: each row is a single write of the version, on what the one before left

module _ (size : Size) (tag : ℕ) where
  abbrev pub row_verdict : Held → ℕ × List ℕ → Option Refusal
  row_verdict h x = write_verdict (records_of size h.tree h.node h.row) h.places tag x.0 x.1

  abbrev pub row_written : Held → ℕ × List ℕ → Held
  row_written h x = written (records_of size h.tree h.node h.row) h.places tag x.0 x.1

  abbrev pub rows_written : Held → List ℕ → List ℕ → Ended Held
  rows_written h rows bytes = in_order row_verdict row_written h (rows_with size.width rows bytes)

unfoldable pub bordered : Records → List ℕ → ℕ → List ℕ → List ℕ → Ended Held
bordered z places tag rows bytes =
    unless (border_verdict z places tag rows bytes) (stopped (held z.tree z.node z.row places)) (rows_written z.size tag (held z.tree z.node z.row places) rows bytes)

-- the refusal's number is answered, and how many rows were done; and this is left
pub record Ends {S : Type 0} (e : Ended S) (number done : ℕ) (got : S) : Type 0 where
  pub numbered : number ≡ verdict_number e.refusal
  pub counted : done ≡ e.done
  pub left : got ≡ e.left

-- The promise of a border: on sound records as above; on others 20, no row done, and all as it was
abbrev pub BorderEnds : Records → List ℕ → ℕ → List ℕ → List ℕ → ℕ → ℕ → Held → Type 0
BorderEnds z places tag rows bytes number done got =
    Judged z (Ends (bordered z places tag rows bytes) number done got) (Ends (stopped (held z.tree z.node z.row places) Unsound) number done got)
