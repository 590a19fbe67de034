-- Records that are stored and loaded again are the same, and so are bytes that are loaded and stored again. Assumes nothing.
use Rattle.std.specs.Prelude.{◌≡◌, refl, List, [], ◌∷◌, ◌++◌, ℕ, zero, suc, ◌+◌, ◌*◌, ◌≤◌, ◌<◌, length, take, drop}
use Rattle.std.proofs.Common.{sym, ◌∙◌, ap, append_assoc, arith, length-append, take-append-drop, take_at, drop_at, drop-drop, get_or-drop, length-take-le}
use Rattle.std.proofs.Math.ListN.{length-drop}
use Rattle.std.proofs.Math.Seq.{take_all}
use Rattle.basics.specs.Decide.{at}
use Rattle.measures.specs.Measures.{Within}
use Rattle.records.specs.Records.{Records}
use Rattle.laying.specs.Laid.{twos, pairs, numbers, pair_at}
use Rattle.laying.specs.Laws.{pairs_size, numbers_pairs, pairs_numbers}
use Rattle.layout.specs.Layout.{states_at, parents_at, tags_at, table_at, entries, records_size, tree_bytes, table_bytes, stored, size_at, part, loaded, Fits}
use Rattle.layout.specs.Laws.{tree_size, table_size, size_same}

-- records of the right lengths
pub record Storable (z : Records) : Type 0 where
  pub within : Within z.size
  pub states : length z.tree.state ≡ 128
  pub parents : length z.tree.parent ≡ 128
  pub tags : length z.tree.tag ≡ 128
  pub nodes : length z.node ≡ entries z.size
  pub rows : length z.row ≡ entries z.size

pub stored_size : (z : Records) → Storable z → length (stored z) ≡ records_size z.size
unfolding stored pairs twos
stored_size z s = omega (
  arith,
  length-append (tree_bytes z.tree) (table_bytes z.node z.row),
  tree_size z.tree s.states s.parents s.tags,
  table_size z.node z.row,
  s.nodes,
  s.rows,
)

pub stored_measures : (z : Records) → size_at (stored z) ≡ z.size
unfolding stored pairs twos
stored_measures z = size_same (omega arith) (omega arith) (omega arith)

-- where a part begins it is read, and behind it comes the rest
read : (b p rest : List ℕ) (from n : ℕ) → drop from b ≡ p ++ rest → length p ≡ n → (part from n b ≡ p) × (drop (from + n) b ≡ rest)
read b p rest from n e l = (rw e (take_at p rest n l), sym (drop-drop n from b) ∙ rw e (drop_at p rest n l))

-- the parts behind the measures, one after the other
behind : (z : Records) → drop states_at (stored z) ≡ z.tree.state ++ (z.tree.parent ++ (pairs z.tree.tag ++ (z.node ++ pairs z.row)))
unfolding stored tree_bytes table_bytes pairs twos
behind z = rw (append_assoc, append_assoc)

pub loaded_stored : (z : Records) → Storable z → loaded (stored z) ≡ z
unfolding loaded
loaded_stored z s =
    let state = read (stored z) z.tree.state _ states_at 128 (behind z) s.states in
    let parent = read (stored z) z.tree.parent _ parents_at 128 state.1 s.parents in
    let tag = read (stored z) (pairs z.tree.tag) _ tags_at 256 parent.1 (omega (arith, pairs_size z.tree.tag, s.tags)) in
    let node = read (stored z) z.node _ table_at (entries z.size) tag.1 s.nodes in
    let row = take_all (2 * entries z.size) (pairs z.row) (omega (arith, pairs_size z.row, s.rows)) in
    rw (
      stored_measures z,
      ap entries (stored_measures z),
      state.0,
      parent.0,
      tag.0,
      node.0,
      node.1,
      row,
      numbers_pairs z.tree.tag,
      numbers_pairs z.row,
    )

pub stored_fits : (z : Records) → Storable z → Fits (stored z)
stored_fits z s = record {
  within = rw (stored_measures z) s.within;
  long = stored_size z s ∙ ap records_size (sym (stored_measures z));
}

-- Bytes, each below 256, as many as their measures say

take_low : (n : ℕ) (xs : List ℕ) → ((i : ℕ) → at xs i < 256) → (i : ℕ) → at (take n xs) i < 256
take_low zero xs f i = omega arith
take_low (suc n) [] f i = omega arith
take_low (suc n) (x ∷ xs) f zero = f zero
take_low (suc n) (x ∷ xs) f (suc i) = take_low n xs (λ k. f (suc k)) i

-- the three measures are the first six bytes
measures : (b : List ℕ) → 6 ≤ length b → pair_at b 0 ∷ pair_at b 2 ∷ pair_at b 4 ∷ [] ≡ numbers (take 6 b)
unfolding numbers
measures [] l = absurd (omega (arith, l))
measures (c ∷ []) l = absurd (omega (arith, l))
measures (c ∷ d ∷ []) l = absurd (omega (arith, l))
measures (c ∷ d ∷ e ∷ []) l = absurd (omega (arith, l))
measures (c ∷ d ∷ e ∷ f ∷ []) l = absurd (omega (arith, l))
measures (c ∷ d ∷ e ∷ f ∷ g ∷ []) l = absurd (omega (arith, l))
measures (c ∷ d ∷ e ∷ f ∷ g ∷ h ∷ b) l = refl

-- parts one behind the other, each joined to the rest
whole : {h h' : List ℕ} (s p : List ℕ) {g g' : List ℕ} (n : List ℕ) {r r' d₁ d₂ d₃ d₄ b : List ℕ} → h' ≡ h → g' ≡ g → r' ≡ r → n ++ r ≡ d₄ → g ++ d₄ ≡ d₃ → p ++ d₃ ≡ d₂ → s ++ d₂ ≡ d₁ → h ++ d₁ ≡ b
    → h' ++ ((s ++ (p ++ g')) ++ (n ++ r')) ≡ b
whole s p {g} n {d₄ = d₄} x y z i j k l m = rw (x, y, z, i, append_assoc s (p ++ g) d₄, append_assoc p g d₄, j, k, l) m

module _ (b : List ℕ) (f : Fits b) (low : (i : ℕ) → at b i < 256) where
  abbrev n : ℕ
  n = entries (size_at b)

  -- a part, and what comes behind it
  joined : (from k : ℕ) → part from k b ++ drop (from + k) b ≡ drop from b
  joined from k = ap (λ (r : List ℕ). part from k b ++ r) (sym (drop-drop k from b)) ∙ take-append-drop k (drop from b)

  pair_part : (from k : ℕ) → from + 2 * k ≤ length b → pairs (numbers (part from (2 * k) b)) ≡ part from (2 * k) b
  pair_part from k l =
      pairs_numbers (part from (2 * k) b) k (length-take-le (2 * k) (drop from b) (omega (arith, length-drop from b)))
      (take_low (2 * k) (drop from b) (λ i. rw (get_or-drop from b i 0) (low (from + i))))

  pub stored_loaded : stored (loaded b) ≡ b
  unfolding stored loaded tree_bytes table_bytes
  stored_loaded = whole (part states_at 128 b) (part parents_at 128 b) (part table_at n b)
      (ap pairs (measures b (omega (arith, f.long))) ∙ pair_part 0 3 (omega (arith, f.long)))
      (pair_part tags_at 128 (omega (arith, f.long)))
      (pair_part (table_at + n) n (omega (arith, f.long)) ∙ take_all (2 * n) (drop (table_at + n) b) (omega (arith, f.long, length-drop (table_at + n) b)))
      (joined table_at n)
      (joined tags_at 256)
      (joined parents_at 128)
      (joined states_at 128)
      (joined 0 6)
