-- The two counts of a call's result, both 0 if it is refused. Definitions only. Assumes nothing.
use Rattle.std.specs.Prelude.{ℕ, Result, Ok, Err}
use Rattle.answers.specs.declared.Refusal.{Refusal}
use Rattle.counting.specs.declared.Counts.{Counts}

abbrev pub used_of : Result Counts Refusal → ℕ
used_of (Ok c) = c.used
used_of (Err r) = 0

abbrev pub snapshots_of : Result Counts Refusal → ℕ
snapshots_of (Ok c) = c.snapshots
snapshots_of (Err r) = 0
