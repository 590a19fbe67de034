-- What an opening answers and leaves, the records being bytes. Definitions only. Assumes nothing.
use Rattle.std.specs.Prelude.{not, List, [], ◌∷◌, ℕ, ◌*◌, eqb, length, replicate}
use Rattle.measures.specs.declared.Size.{Size}
use Rattle.records.specs.Records.{Records, records_of}
use Rattle.answers.specs.declared.Refusal.TheVariants.{BadSize, BadLength}
use Rattle.answers.specs.Tests.{Tests, refusal, in_measure}
use Rattle.soundness.specs.Judged.{Leaves}
use Rattle.opening.specs.Opening.{first_tree}
use Rattle.layout.specs.Layout.{entries, records_size, stored}
use Rattle.host.specs.Host.{Lent}

unfoldable pub open_tests : Size → ℕ → ℕ → Tests
open_tests z records places =
    (not (in_measure z), BadSize)
    ∷ (not (eqb places (z.places * z.width)), BadLength)
    ∷ (not (eqb records (records_size z)), BadLength)
    ∷ []

abbrev pub size_of : ℕ → ℕ → ℕ → Size
size_of rows width places = record { rows = rows; width = width; places = places }

-- node 0 alone, and a free entry for each snapshot place
abbrev pub first_records : Size → Records
first_records z = records_of z first_tree (replicate (entries z) 0) (replicate (entries z) 0)

abbrev pub HostOpens : Size → List ℕ → List ℕ → ℕ → Lent → Type 0
HostOpens z b places answer got =
    Leaves (refusal (open_tests z (length b) (length places))) (b, places) (stored (first_records z), replicate (length places) 0) answer got
