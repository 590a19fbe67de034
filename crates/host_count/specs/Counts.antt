-- What a count answers, the records being bytes. Definitions only. Assumes nothing.
use Rattle.std.specs.Prelude.{◌≡◌, List, ℕ}
use Rattle.answers.specs.declared.Refusal.TheVariants.{Unsound}
use Rattle.answers.specs.Answers.{refused_of}
use Rattle.counting.specs.Counting.{counted, count_answer}
use Rattle.layout.specs.Layout.{loaded}
use Rattle.host.specs.Host.{Host}

-- Count gives two numbers, zero if refused
abbrev pub HostCounts : List ℕ → ℕ → ℕ → ℕ → Type 0
HostCounts b answer in_use alive = Host b (counted answer in_use alive ≡ count_answer (loaded b)) (counted answer in_use alive ≡ refused_of 2 Unsound)
