-- What is shown of an answer; how long the parts of a line are. Assumes nothing.
use Rattle.std.specs.Prelude.{◌≡◌, refl, ◌≢◌, Bool, true, false, cond, List, [], ◌∷◌, ◌++◌, ℕ, ◌+◌, ◌*◌, ◌≤◌, eqb, length}
use Rattle.std.proofs.Common.{ap, arith, length-append, ne_eqb}
use Rattle.answers.specs.Answers.{Answer, handed, row, counts}
use Rattle.laying.specs.Laid.{Lays}
use Rattle.laying.specs.Laws.{lays_then}
use Rattle.digits.specs.Digits.{decimal, hex}
use Rattle.digits.specs.Laws.{decimal_most, hex_size}
use Rattle.text.specs.Text.{head, line, apart, pair_text, row_text, shown, answer_line, spaced, space, dash, newline}

-- What is shown

pub shown_refused : (a : Answer) → a.number ≢ 0 → shown a ≡ dash
unfolding shown
shown_refused a e = rw (ne_eqb a.number 0 e)

pub shown_plain : (n : ℕ) → shown (handed n [] []) ≡ dash
unfolding shown spaced
shown_plain n = go (eqb n 0)
  where
    go : (b : Bool) → cond b dash dash ≡ dash
    go true = refl
    go false = refl

pub shown_row : (bs : List ℕ) (sharers : ℕ) → bs ≢ [] → shown (row bs sharers) ≡ row_text bs sharers
unfolding shown spaced row_text
shown_row [] sharers e = absurd (e refl)
shown_row (b ∷ bs) sharers e = refl

pub shown_counts : (used snapshots : ℕ) → shown (counts used snapshots) ≡ pair_text used snapshots
unfolding shown spaced pair_text
shown_counts used snapshots = refl

-- Lines

pub answer_line_lem : (k : ℕ) {h a : Answer} → h ≡ a → line k h.number (shown h) ≡ answer_line k a
unfolding answer_line
answer_line_lem k e = ap (answer_line k) e

pub head_most : (k n : ℕ) → length (head k n) ≤ 10
unfolding head
head_most k n = omega (
  arith,
  decimal_most k,
  decimal_most n,
  length-append (decimal k) (space ++ (decimal n ++ space)),
  length-append space (decimal n ++ space),
  length-append (decimal n) space,
)

pub line_most : (k n : ℕ) (shown : List ℕ) → length (line k n shown) ≤ 11 + length shown
unfolding line
line_most k n shown = omega (arith, head_most k n, length-append (head k n) (shown ++ newline), length-append shown newline)

apart_size : (x y : List ℕ) → length (apart x y) ≡ length x + (1 + length y)
apart_size x y = omega (arith, length-append x (space ++ y), length-append space y)

pub pair_most : (u s : ℕ) → length (pair_text u s) ≤ 9
unfolding pair_text
pair_most u s = omega (arith, decimal_most u, decimal_most s, apart_size (decimal u) (decimal s))

pub row_most : (bs : List ℕ) (n : ℕ) → length (row_text bs n) ≤ 5 + 2 * length bs
unfolding row_text
row_most bs n = omega (arith, hex_size bs, decimal_most n, apart_size (hex bs) (decimal n))

-- Each laid from its parts, and the room that it takes

pub head_laid : (k n : ℕ) {b : List ℕ} {p : ℕ} {a₁ a₂ a₃ a : List ℕ} {to₁ to₂ to₃ to : ℕ}
    → Lays b p (decimal k) a₁ to₁ → Lays a₁ to₁ space a₂ to₂ → Lays a₂ to₂ (decimal n) a₃ to₃ → Lays a₃ to₃ space a to → Lays b p (head k n) a to
unfolding head
head_laid k n x y z w = lays_then x (lays_then y (lays_then z w))

pub head_room : (k n : ℕ) {b : List ℕ} {p : ℕ} {a : List ℕ} {to : ℕ} → Lays b p (head k n) a to → (to ≤ p + 10) × (length a ≡ length b)
head_room k n l = (omega (arith, l.ends, head_most k n), l.size)

pub line_laid : (k n : ℕ) (shown : List ℕ) {b : List ℕ} {p : ℕ} {a₁ a₂ a : List ℕ} {to₁ to₂ to : ℕ}
    → Lays b p (head k n) a₁ to₁ → Lays a₁ to₁ shown a₂ to₂ → Lays a₂ to₂ newline a to → Lays b p (line k n shown) a to
unfolding line
line_laid k n shown x y z = lays_then x (lays_then y z)

pub apart_laid : (x y : List ℕ) {b : List ℕ} {p : ℕ} {a₁ a₂ a : List ℕ} {to₁ to₂ to : ℕ} → Lays b p x a₁ to₁ → Lays a₁ to₁ space a₂ to₂ → Lays a₂ to₂ y a to → Lays b p (apart x y) a to
apart_laid x y f g h = lays_then f (lays_then g h)

pub pair_room : (u s : ℕ) {b : List ℕ} {p : ℕ} {a : List ℕ} {to : ℕ} → Lays b p (pair_text u s) a to → (to ≤ p + 9) × (length a ≡ length b)
pair_room u s l = (omega (arith, l.ends, pair_most u s), l.size)

pub row_room : (bs : List ℕ) (n : ℕ) {b : List ℕ} {p : ℕ} {a : List ℕ} {to : ℕ} → Lays b p (row_text bs n) a to → (to ≤ p + (5 + 2 * length bs)) × (length a ≡ length b)
row_room bs n l = (omega (arith, l.ends, row_most bs n), l.size)
