-- How many share the row that was read, 0 if the read is refused. Definitions only. Assumes nothing.
use Rattle.std.specs.Prelude.{ℕ, Result, Ok, Err}
use Rattle.answers.specs.declared.Refusal.{Refusal}

abbrev pub told_of : Result ℕ Refusal → ℕ
told_of (Ok n) = n
told_of (Err r) = 0
