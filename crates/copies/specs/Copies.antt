-- Full copies (SPEC 6): what every living version has at each of its rows, and marks that tell who shares it. Nothing here looks into a row, so the
-- element is of any type. Definitions only. Assumes nothing.
use Rattle.std.specs.Prelude.{◌≡◌, Bool, true, false, not, ◌&&◌, ◌||◌, cond, List, [], ◌∷◌, ℕ, zero, suc, pred, ◌<◌, eqb}

-- a tag and a row
abbrev pub Cell : Type 0
Cell = ℕ × ℕ

pub record Copies (A : Type 0) : Type 0 where
  -- of each row of a living version, what it holds and its mark
  pub content : Cell → A
  pub mark : Cell → ℕ
  -- the next mark: every mark given so far is below it
  pub next : ℕ

-- Lists: some element passes; those that pass; how many different values f has on it

unfoldable pub any : {A : Type 0} → (A → Bool) → List A → Bool
any p [] = false
any p (x ∷ xs) = p x || any p xs

unfoldable pub only : {A : Type 0} → (A → Bool) → List A → List A
only p [] = []
only p (x ∷ xs) = cond (p x) (x ∷ only p xs) (only p xs)

unfoldable pub different : {A : Type 0} → (A → ℕ) → List A → ℕ
different f [] = 0
different f (x ∷ xs) = cond (any (λ y. eqb (f x) (f y)) xs) (different f xs) (suc (different f xs))

-- Who lives, from the tags that live besides the origin's

abbrev pub living : List ℕ → List ℕ
living tags = 0 ∷ tags

unfoldable pub alive : List ℕ → ℕ → Bool
alive tags t = any (eqb t) (living tags)

unfoldable pub snapshots_alive : List ℕ → ℕ
snapshots_alive tags = pred (different (λ t. t) (living tags))

unfoldable pub without : ℕ → List ℕ → List ℕ
without t [] = []
without t (u ∷ us) = cond (eqb u t) (without t us) (u ∷ without t us)

-- a row of a living version
abbrev pub Live : ℕ → List ℕ → Cell → Type 0
Live rows tags c = (alive tags c.0 ≡ true) × (c.1 < rows)

-- (t, n - 1) .. (t, 0), in front of cs; then the same for every tag of a list
abbrev pub rows_of : ℕ → ℕ → List Cell → List Cell
rows_of t zero cs = cs
rows_of t (suc n) cs = (t, n) ∷ rows_of t n cs

abbrev pub cells : ℕ → List ℕ → List Cell
cells n [] = []
cells n (t ∷ ts) = rows_of t n (cells n ts)

-- Marks: a row is shared if another living version has its mark; places in use are the different marks

unfoldable pub shared : List ℕ → (Cell → ℕ) → ℕ → ℕ → Bool
shared tags mark t r = any (λ u. not (eqb u t) && eqb (mark (u, r)) (mark (t, r))) (living tags)

-- how many living versions have at row r the mark that version t has there
unfoldable pub sharers : List ℕ → (Cell → ℕ) → ℕ → ℕ → ℕ
sharers tags mark t r = different (λ u. u) (only (λ u. eqb (mark (u, r)) (mark (t, r))) (living tags))

unfoldable pub places_used : ℕ → List ℕ → (Cell → ℕ) → ℕ
places_used n tags mark = different mark (cells n (living tags))

-- What is done to copies

-- t gets what s has
unfoldable pub adopt : {A : Type 0} → ℕ → ℕ → (Cell → A) → Cell → A
adopt s t f c = f (cond (eqb c.0 t) s c.0, c.1)

-- f, but v at c
unfoldable pub put : {A : Type 0} → Cell → A → (Cell → A) → Cell → A
put c v f d = cond (eqb d.0 c.0 && eqb d.1 c.1) v (f d)

module _ {A : Type 0} where
  -- v in every row, and n different marks for the origin's
  abbrev pub fresh : ℕ → A → Copies A
  fresh n v = record { content = λ c. v; mark = λ c. c.1; next = n }

  -- t gets all of s, marks included
  abbrev pub copied : ℕ → ℕ → Copies A → Copies A
  copied s t k = record { content = adopt s t k.content; mark = adopt s t k.mark; next = k.next }

  -- v at c, under a new mark
  abbrev pub renewed : Cell → A → Copies A → Copies A
  renewed c v k = record { content = put c v k.content; mark = put c k.next k.mark; next = suc k.next }

  -- v at c: under a new mark, or, if by a test it is there already, as it was
  abbrev pub saved : (A → A → Bool) → Cell → A → Copies A → Copies A
  saved same c v k = cond (same v (k.content c)) k (renewed c v k)
