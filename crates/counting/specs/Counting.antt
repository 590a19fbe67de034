-- What a count answers, for sound records and for others. Definitions only. Assumes nothing.
use Rattle.std.specs.Prelude.{◌≡◌, [], ◌∷◌, ℕ}
use Rattle.records.specs.Records.{Records, table}
use Rattle.trees.specs.Trees.{snapshots, used}
use Rattle.soundness.specs.Judged.{Judged}
use Rattle.answers.specs.declared.Refusal.TheVariants.{Unsound}
use Rattle.answers.specs.Answers.{Answer, handed, counts, refused_of}

-- a number and two counts are handed out
abbrev pub counted : ℕ → ℕ → ℕ → Answer
counted number in_use alive = handed number [] (in_use ∷ alive ∷ [])

abbrev pub count_answer : Records → Answer
count_answer z = counts (used (table z)) (snapshots z.tree)

-- The promise of count: on sound records the answer above, on others 20 and two zeros
abbrev pub CountEnds : Records → ℕ → ℕ → ℕ → Type 0
CountEnds z number in_use alive = Judged z (counted number in_use alive ≡ count_answer z) (counted number in_use alive ≡ refused_of 2 Unsound)
