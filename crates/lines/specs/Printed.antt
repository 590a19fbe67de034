-- What the program prints for a stream: the reference model's answers, line by line. Definitions only. Assumes nothing.
use Rattle.std.specs.Prelude.{cond, List, ℕ, ltb, length}
use Rattle.measures.specs.declared.Size.{Size}
use Rattle.model.specs.Model.{opened}
use Rattle.text.specs.Text.{answer_line}
use Rattle.answers.specs.declared.Refusal.TheVariants.{LongStream}
use Rattle.answers.specs.Answers.{refused}
use Rattle.lines.specs.Output.{output}

-- 4 rows of 8 bytes in 6 places
abbrev pub program_size : Size
program_size = record { rows = 4; width = 8; places = 6 }

unfoldable pub served : List ℕ → List ℕ
served s = output program_size s (opened program_size)

-- a stream of over 4,096 bytes is answered by one line, with the number 0 and that of its refusal
unfoldable pub printed : List ℕ → List ℕ
printed s = cond (ltb 4096 (length s)) (answer_line 0 (refused LongStream)) (served s)
