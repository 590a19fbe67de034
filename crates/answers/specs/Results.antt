-- A call's result as a value: the number that it answers, and what it leaves. Definitions only. Assumes nothing.
use Rattle.std.specs.Prelude.{ℕ, Result, Ok, Err}
use Rattle.answers.specs.declared.Refusal.{Refusal}
use Rattle.answers.specs.Answers.{number}

-- 0 if the call is done, else the refusal's number
abbrev pub answer_of : {A : Type 0} → Result A Refusal → ℕ
answer_of (Ok x) = 0
answer_of (Err r) = number r

-- what was made, or the old thing if the call is refused
abbrev pub left_of : {A : Type 0} → A → Result A Refusal → A
left_of old (Ok x) = x
left_of old (Err r) = old
