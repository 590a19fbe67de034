-- A place map: from which place each version reads each of its rows, and what lies there; what a call does to it; when it mirrors full copies. Nothing
-- here looks into a row, so the element is of any type. Definitions only. Assumes nothing.
use Rattle.std.specs.Prelude.{◌≡◌, ◌≢◌, ◌↔◌, true, false, cond, not, ◌&&◌, List, [], ◌∷◌, ℕ, ◌<◌, eqb}
use Rattle.copies.specs.Copies.{Cell, Copies, alive, Live, shared, adopt, put, without}

-- which snapshots live; the place from which a living version's row is read; what lies in each place
pub record Map (A : Type 0) : Type 0 where
  pub tags : List ℕ
  pub place : Cell → ℕ
  pub content : ℕ → A

-- f, but v at n
unfoldable pub poke : {A : Type 0} → ℕ → A → (ℕ → A) → ℕ → A
poke n v f k = cond (eqb k n) v (f k)

-- what snapshots read from r they read from q
unfoldable pub divert : ℕ → ℕ → (Cell → ℕ) → Cell → ℕ
divert r q f c = cond (eqb (f c) r && not (eqb c.0 0)) q (f c)

module _ {A : Type 0} where
  -- the origin alone, each row in its own place, and v everywhere
  abbrev pub first_map : A → Map A
  first_map v = record { tags = []; place = λ c. c.1; content = λ p. v }

  -- the new version t reads what s reads; version t is gone
  abbrev pub joined : ℕ → ℕ → Map A → Map A
  joined s t m = record { tags = t ∷ m.tags; place = adopt s t m.place; content = m.content }

  abbrev pub left : ℕ → Map A → Map A
  left t m = record { tags = without t m.tags; place = m.place; content = m.content }

  -- The three ways to write: over what lies in the place; to a free place q; over what lies in the origin's, saved to q before

  abbrev pub kept : Map A → Cell → A → Map A
  kept m c v = record { tags = m.tags; place = m.place; content = poke (m.place c) v m.content }

  abbrev pub moved : Map A → Cell → A → ℕ → Map A
  moved m c v q = record { tags = m.tags; place = put c q m.place; content = poke q v m.content }

  abbrev pub saved : Map A → ℕ → A → ℕ → Map A
  saved m r v q = record { tags = m.tags; place = divert r q m.place; content = poke r v (poke q (m.content r) m.content) }

module _ {A : Type 0} (n : ℕ) where
  -- the same at every row of a living version
  pub record Alike (m' m : Map A) : Type 0 where
    pub tags : (t : ℕ) → alive m'.tags t ≡ alive m.tags t
    pub place : (c : Cell) → Live n m.tags c → m'.place c ≡ m.place c
    pub content : (c : Cell) → Live n m.tags c → m'.content (m'.place c) ≡ m.content (m.place c)

  -- no living version reads place q
  abbrev pub Free : Map A → ℕ → Type 0
  Free m q = (c : Cell) → Live n m.tags c → m.place c ≢ q

  pub data Write (m : Map A) (t r : ℕ) (v : A) (m' : Map A) : Type 0 where
    in_place : shared m.tags m.place t r ≡ false → Alike m' (kept m (t, r) v) → Write m t r v m'
    to_free : shared m.tags m.place t r ≡ true → t ≢ 0 → (q : ℕ) → Free m q → Alike m' (moved m (t, r) v q) → Write m t r v m'
    saving : shared m.tags m.place t r ≡ true → t ≡ 0 → (q : ℕ) → Free m q → Alike m' (saved m r v q) → Write m t r v m'

  -- A row that is saved: it stays as it was if it holds v already, else v is written
  pub data Save (m : Map A) (t r : ℕ) (v : A) (m' : Map A) : Type 0 where
    untouched : m.content (m.place (t, r)) ≡ v → Alike m' m → Save m t r v m'
    touched : m.content (m.place (t, r)) ≢ v → Write m t r v m' → Save m t r v m'

  -- A map that mirrors copies: the same tags live; every row holds the same; one place exactly if one mark, and only at one row; marks below the next
  pub record Mirrors (m : Map A) (tags : List ℕ) (s : Copies A) : Type 0 where
    pub living : (t : ℕ) → alive m.tags t ≡ alive tags t
    pub content : (c : Cell) → Live n tags c → m.content (m.place c) ≡ s.content c
    pub names : (a b : Cell) → Live n tags a → Live n tags b → m.place a ≡ m.place b ↔ s.mark a ≡ s.mark b
    pub rows : (a b : Cell) → Live n tags a → Live n tags b → m.place a ≡ m.place b → a.1 ≡ b.1
    pub below : (c : Cell) → Live n tags c → s.mark c < s.next
    pub home : (r : ℕ) → r < n → m.place (0, r) ≡ r
