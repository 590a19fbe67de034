-- The end of the text behind a run of a stream: 0 if it is refused. Definitions only. Assumes nothing.
use Rattle.std.specs.Prelude.{ℕ, Result, Ok, Err}
use Rattle.answers.specs.declared.Refusal.{Refusal}

abbrev pub end_of : Result ℕ Refusal → ℕ
end_of (Ok end) = end
end_of (Err r) = 0
