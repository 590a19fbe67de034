-- Laws of the layout: how long its parts are, and what is laid part by part is the whole. Assumes nothing.
use Rattle.std.specs.Prelude.{◌≡◌, List, [], ◌∷◌, ◌++◌, ℕ, ◌+◌, ◌-◌, ◌*◌, length, take, drop}
use Rattle.std.proofs.Common.{◌∙◌, ap, append-nil, arith, length-append, drop_of_length-le}
use Rattle.measures.specs.declared.Size.{Size}
use Rattle.trees.specs.declared.Tree.{Tree}
use Rattle.trees.specs.Trees.{tree_of}
use Rattle.records.specs.Records.{Records, records_of}
use Rattle.laying.specs.Laid.{laid, Lays, pairs, numbers}
use Rattle.laying.specs.Laws.{lays_then, lays_as, pairs_size}
use Rattle.layout.specs.Layout.{table_at, entries, records_size, tree_bytes, table_bytes, stored, size_at, tree_at, nodes_at, loaded}

-- Lengths

pub tree_size : (t : Tree) → length t.state ≡ 128 → length t.parent ≡ 128 → length t.tag ≡ 128 → length (tree_bytes t) ≡ 512
unfolding tree_bytes
tree_size t s p g = omega (arith, s, p, g, length-append t.state (t.parent ++ pairs t.tag), length-append t.parent (pairs t.tag), pairs_size t.tag)

pub table_size : (node row : List ℕ) → length (table_bytes node row) ≡ length node + 2 * length row
unfolding table_bytes
table_size node row = omega (arith, length-append node (pairs row), pairs_size row)

-- Parts laid one behind the other

pub tree_laid : (t : Tree) {b : List ℕ} {p : ℕ} {a₁ a₂ a : List ℕ} {to₁ to₂ to : ℕ} → length t.state ≡ 128 → length t.parent ≡ 128 → length t.tag ≡ 128
    → Lays b p t.state a₁ to₁ → Lays a₁ to₁ t.parent a₂ to₂ → Lays a₂ to₂ (pairs t.tag) a to → Lays b p (tree_bytes t) a to × (to ≡ p + 512)
unfolding tree_bytes
tree_laid t s p g x y z = let l = lays_then x (lays_then y z) in (l, omega (arith, l.ends, tree_size t s p g))

pub table_laid : (node row : List ℕ) {b : List ℕ} {p : ℕ} {a₁ a : List ℕ} {to₁ to : ℕ} → Lays b p node a₁ to₁ → Lays a₁ to₁ (pairs row) a to → Lays b p (table_bytes node row) a to
unfolding table_bytes
table_laid node row x y = lays_then x y

-- what is laid from the front to the end is all
pub laid_all : (b t : List ℕ) → length t ≡ length b → laid b 0 t ≡ t
unfolding laid
laid_all b t e = let n : 0 + length t ≡ length b = omega (arith, e) in rw (n, drop_of_length-le b {i = length b} (omega arith)) (append-nil t)

pub head_ends : (size : Size) {xs b : List ℕ} {p : ℕ} {a : List ℕ} {to : ℕ} → xs ≡ (size.rows ∷ size.width ∷ size.places ∷ []) → Lays b p (pairs xs) a to → (to ≡ p + 6) × (length a ≡ length b)
head_ends size {xs} e l = let n : length xs ≡ 3 = ap length e in (omega (arith, l.ends, n, pairs_size xs), l.size)

module _ (z : Records) where
  pub records_laid : {xs b : List ℕ} {a₁ a₂ a : List ℕ} {to₁ to₂ to : ℕ} → xs ≡ (z.size.rows ∷ z.size.width ∷ z.size.places ∷ [])
      → length b ≡ records_size z.size → length z.node ≡ entries z.size → length z.row ≡ entries z.size
      → Lays b 0 (pairs xs) a₁ to₁ → Lays a₁ to₁ (tree_bytes z.tree) a₂ to₂ × (to₂ ≡ to₁ + 512) → Lays a₂ to₂ (table_bytes z.node z.row) a to → a ≡ stored z
  unfolding stored
  records_laid {xs} {b} e l n r x y w =
      let all = lays_then (lays_as (ap pairs e) x) (lays_then y.0 w) in
      all.whole ∙ laid_all b _ (omega (arith, all.ends, w.ends, y.1, (head_ends z.size e x).0, table_size z.node z.row, n, r, l))

-- Measures and parts that are read back

pub size_same : {a b c a' b' c' : ℕ} → a ≡ a' → b ≡ b' → c ≡ c' → ◌≡◌ {A = Size} (record { rows = a; width = b; places = c }) (record { rows = a'; width = b'; places = c' })
size_same p q r = λ i. record { rows = p i; width = q i; places = r i }

pub tree_same : {s p g s' p' g' : List ℕ} → s ≡ s' → p ≡ p' → g ≡ g' → tree_of s g p ≡ tree_of s' g' p'
tree_same e f h = λ i. tree_of (e i) (h i) (f i)

-- the rows, where the tree is read by itself and the nodes lie where they are
pub load_same : (b : List ℕ) {n : ℕ} {t : Tree} {row : List ℕ} → n ≡ entries (size_at b) → length b ≡ records_size (size_at b)
    → t ≡ tree_at b → row ≡ numbers (take (length b - (table_at + n)) (drop (table_at + n) b)) → records_of (size_at b) t (nodes_at b) row ≡ loaded b
unfolding loaded
load_same b {n} e l t r =
    let k : length b - (table_at + entries (size_at b)) ≡ 2 * entries (size_at b) = omega (arith, l) in
    rw (t, r, e, k)

-- the nodes as a part that is lent
pub nodes_part : (b : List ℕ) {n : ℕ} → n ≡ entries (size_at b) → take ((table_at + n) - table_at) (drop table_at b) ≡ nodes_at b
nodes_part b {n} e = let m : (table_at + n) - table_at ≡ n = omega arith in rw (m, e)
