-- The row and the number of a read's result, and where the row lies: no bytes and 0 if it is refused. Definitions only. Assumes nothing.
use Rattle.std.specs.Prelude.{List, [], ℕ, Result, Ok, Err}
use Rattle.placing.specs.Placing.{Spot}
use Rattle.answers.specs.declared.Refusal.{Refusal}
use Rattle.queries.specs.declared.Lent.{Lent}

abbrev pub bytes_of : Result Lent Refusal → List ℕ
bytes_of (Ok lent) = lent.bytes.now
bytes_of (Err r) = []

abbrev pub sharers_of : Result Lent Refusal → ℕ
sharers_of (Ok lent) = lent.sharers
sharers_of (Err r) = 0

-- of places lent at `whole`; what is refused stands for the empty part at their front
abbrev pub part_of : Spot → Result Lent Refusal → Spot
part_of whole (Ok lent) = lent.bytes.ref_ptr
part_of whole (Err r) = whole
