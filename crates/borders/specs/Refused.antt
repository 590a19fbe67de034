-- The number of the refusal that ended a border, 0 if there is none. Definitions only. Assumes nothing.
use Rattle.std.specs.Prelude.{ℕ, Option, Some, None}
use Rattle.answers.specs.declared.Refusal.{Refusal}
use Rattle.answers.specs.Answers.{number}

abbrev pub number_of : Option Refusal → ℕ
number_of (Some r) = number r
number_of None = 0
