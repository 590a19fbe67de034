-- The lines of an output, as bytes (SPEC 9.2). Definitions only. Assumes nothing.
use Rattle.std.specs.Prelude.{cond, List, [], ◌∷◌, ◌++◌, map, ℕ, eqb}
use Rattle.answers.specs.Answers.{Answer}
use Rattle.digits.specs.Digits.{decimal, hex}

-- the codes of a space, a dash and a line's end
abbrev pub space : List ℕ
space = 32 ∷ []

abbrev pub dash : List ℕ
dash = 45 ∷ []

abbrev pub newline : List ℕ
newline = 10 ∷ []

-- a line begins with its own number and that of the answer; then comes what is shown
unfoldable pub head : ℕ → ℕ → List ℕ
head k n = decimal k ++ (space ++ (decimal n ++ space))

unfoldable pub line : ℕ → ℕ → List ℕ → List ℕ
line k n shown = head k n ++ (shown ++ newline)

-- two pieces with a space between: two numbers; a row's bytes and how many share it
abbrev pub apart : List ℕ → List ℕ → List ℕ
apart x y = x ++ (space ++ y)

unfoldable pub pair_text : ℕ → ℕ → List ℕ
pair_text used snapshots = apart (decimal used) (decimal snapshots)

unfoldable pub row_text : List ℕ → ℕ → List ℕ
row_text bytes sharers = apart (hex bytes) (decimal sharers)

-- any number of pieces; a dash for none
unfoldable pub spaced : List (List ℕ) → List ℕ
spaced [] = dash
spaced (p ∷ []) = p
spaced (p ∷ q ∷ rest) = apart p (spaced (q ∷ rest))

-- a row in hexadecimal digits, if there is one
abbrev pub row_pieces : List ℕ → List (List ℕ)
row_pieces [] = []
row_pieces (b ∷ bs) = hex (b ∷ bs) ∷ []

-- what is shown of an answer: its row and its numbers, and a dash if it has neither or is a refusal
unfoldable pub shown : Answer → List ℕ
shown a = cond (eqb a.number 0) (spaced (row_pieces a.bytes ++ map decimal a.numbers)) dash

-- the line of an answer
unfoldable pub answer_line : ℕ → Answer → List ℕ
answer_line k a = line k a.number (shown a)
