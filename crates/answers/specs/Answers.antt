-- What a call answers, and the number of each refusal (SPEC 7.2). Definitions only. Assumes nothing.
use Rattle.std.specs.Prelude.{List, [], ◌∷◌, ℕ, replicate}
use Rattle.answers.specs.declared.Refusal.{Refusal}
use Rattle.answers.specs.declared.Refusal.TheVariants.{BadSize, BadLength, BadRow, ZeroTag, OriginTag, UnknownCommand, CutCommand, LongStream, Unsound, UnknownTag, TagAlive, SnapshotsFull, PlacesFull, TooManyRows}

abbrev pub number : Refusal → ℕ
number BadSize = 1
number BadLength = 2
number BadRow = 3
number ZeroTag = 4
number OriginTag = 5
number UnknownCommand = 6
number CutCommand = 7
number LongStream = 8
number Unsound = 20
number UnknownTag = 21
number TagAlive = 22
number SnapshotsFull = 23
number PlacesFull = 24
number TooManyRows = 25

-- What a caller is handed: a number, the bytes of a row (else none), and the numbers that the call gives beside, each 0 if it is refused
pub record Answer : Type 0 where
  pub number : ℕ
  pub bytes : List ℕ
  pub numbers : List ℕ

abbrev pub handed : ℕ → List ℕ → List ℕ → Answer
handed number bytes numbers = record { number = number; bytes = bytes; numbers = numbers }

abbrev pub done : Answer
done = handed 0 [] []

-- the bytes that were read, and how many living versions share the row
abbrev pub row : List ℕ → ℕ → Answer
row bytes sharers = handed 0 bytes (sharers ∷ [])

-- places in use, snapshots alive
abbrev pub counts : ℕ → ℕ → Answer
counts used snapshots = handed 0 [] (used ∷ snapshots ∷ [])

-- a refusal of a call that gives n numbers, and of one that gives none
abbrev pub refused_of : ℕ → Refusal → Answer
refused_of n r = handed (number r) [] (replicate n 0)

abbrev pub refused : Refusal → Answer
refused r = refused_of 0 r
