-- Laws of the free entry: what is found is free, and none is found exactly where all places are in use. Then those who read a
-- row from one place, counted node by node, and when that makes it shared. Assumes nothing.
use Rattle.std.specs.Prelude.{◌≡◌, ◌≢◌, ◌↔◌, Bool, true, false, List, take, drop}
use Rattle.std.proofs.Math.Path.{refl, sym}
use Rattle.std.proofs.Common.{◌∙◌, ap, arith, length-take, length-drop, get_or-take, get_or-drop, below_more}
use Rattle.std.proofs.Math.Logic.{by_cases}
use Rattle.std.proofs.Math.Bool.{not, false≢true}
use Rattle.std.proofs.Math.Option.{Option, none, some}
use Prim.Native.Nat.{ℕ, zero, suc, ◌+◌, ◌-◌, ◌≤◌, ◌<◌}
use Rattle.std.proofs.Math.Decide.{ℕ_discrete, dec_lt}
use Rattle.std.proofs.Math.Dec.{eqb}
use Rattle.std.proofs.Math.ListN.{length}
use borrow.Author.Tests.{eq-eqb, ne_eqb, eqb-true, eqb-false}
use Rattle.basics.specs.Decide.{Decides, at, and_yes, both, not_yes, not_of}
use Rattle.basics.specs.Count.{sum, one, count, first}
use Rattle.basics.proofs.CountLaws.{sum_ones, one_yes, one_most, one_true, count_none, count_yes, count_no, count_most, count_two, count_pair, first_start, first_yes, first_no, first_more, first_some, first_none, first_nothing}
use Rattle.trees.specs.declared.Tree.{Tree}
use Rattle.trees.specs.Trees.{Table, Alive, taken, used}
use Rattle.trees.specs.Reading.{place}
use Rattle.records.specs.Records.{is_found}
use Rattle.notes.specs.Notes.{Noted, Climbed}
use Rattle.sharing.specs.Sharing.{reads_from, sharers_at, ReadersOf, SharedAt, is_sharer, shared_at, free_entry}

-- Free entries

pub free_some : (node : List ℕ) (i : ℕ) → free_entry node ≡ some i → (i < length node) × (at node i ≡ 0)
unfolding free_entry
free_some node i e =
    let f = first_some (λ i. eqb (at node i) 0) (length node) i e in
    (f.low, eqb-true _ 0 f.passes)

pub free_none : (node : List ℕ) → free_entry node ≡ none → (i : ℕ) → i < length node → at node i ≢ 0
unfolding free_entry
free_none node e i l = eqb-false _ 0 (first_none (λ i. eqb (at node i) 0) (length node) e i l)

-- and where no entry is free, none is found
pub none_free : (node : List ℕ) → ((i : ℕ) → i < length node → at node i ≢ 0) → free_entry node ≡ none
unfolding free_entry
none_free node h = first_nothing (λ i. eqb (at node i) 0) (length node) (λ i l. ne_eqb _ 0 (h i l))

-- none of the first n entries is free
abbrev pub Full : List ℕ → ℕ → Type 0
Full node n = (k : ℕ) → k < n → at node k ≢ 0

-- the least of the first i numbers tells whether one is 0
pub record Least (xs : List ℕ) (i least : ℕ) : Type 0 where
  pub none : least ≢ 0 → Full xs i
  pub some : least ≡ 0 → Full xs i → ⊥

module _ (xs : List ℕ) where
  pub least_first : {least : ℕ} → least ≢ 0 → Least xs 0 least
  least_first z = record { none = λ e k l. absurd (omega arith); some = λ e. absurd (z e) }

  -- number i is no less, or it is
  pub least_kept : {i least : ℕ} → least ≤ at xs i → Least xs i least → Least xs (i + 1) least
  least_kept l g = record { none = λ e. below_more _ _ (g.none e) (λ z. e (omega arith)); some = λ e h. g.some e (λ k m. h k (omega arith)) }

  pub least_less : {i least : ℕ} → at xs i < least → Least xs i least → Least xs (i + 1) (at xs i)
  least_less {i} l g = record { none = λ e. below_more _ _ (g.none (λ z. omega (arith, l, z))) e; some = λ e h. h i (omega arith) e }

-- the search has come to i, and no entry below it is free
pub record Passed (node : List ℕ) (i : ℕ) : Type 0 where
  pub most : i ≤ length node
  pub full : first (λ k. eqb (at node k) 0) i ≡ none

module _ (node : List ℕ) where
  pub pass_start : Passed node 0
  pass_start = record { most = omega arith; full = first_start (λ k. eqb (at node k) 0) }

  pub pass_free : (i : ℕ) → i < length node → Passed node i → at node i ≡ 0 → free_entry node ≡ some i
  unfolding free_entry
  pass_free i l h e =
      first_more (λ k. eqb (at node k) 0) (i + 1) (length node) i (first_yes (λ k. eqb (at node k) 0) i h.full (eq-eqb _ 0 e)) (omega arith)

  pub pass_next : (i : ℕ) → i < length node → Passed node i → at node i ≢ 0 → Passed node (i + 1)
  pass_next i l h e = record { most = omega arith; full = first_no (λ k. eqb (at node k) 0) i h.full (ne_eqb _ 0 e) }

  -- past a stretch without a free entry
  pub pass_full : (i j : ℕ) → i ≤ j → j ≤ length node → (let part = take (j - i) (drop i node) in Full part (length part)) → Passed node i → Passed node j
  pass_full i j l m f h = record { most = m; full = first_nothing (λ k. eqb (at node k) 0) j (λ k b. by_cases (dec_lt k i) (λ c. first_none (λ k. eqb (at node k) 0) i h.full k c) (λ c. ne_eqb _ 0 (past k (omega arith) b))) }
    where
      past : (k : ℕ) → i ≤ k → k < j → at node k ≢ 0
      past k a b e =
          let d : i + (k - i) ≡ k = omega arith in
          f (k - i) (simp (length-take, length-drop) (omega arith)) (get_or-take (j - i) (drop i node) (k - i) 0 (omega arith) ∙ get_or-drop i node (k - i) 0 ∙ ap (at node) d ∙ e)

  pub pass_all : (i : ℕ) → length node ≤ i → Passed node i → free_entry node ≡ none
  unfolding free_entry
  pass_all i l h = let e : i ≡ length node = omega (arith, h.most) in rw e at h.full

-- The places are all in use where no entry is free

module _ (t : ℕ → Bool) where
  -- where all pass, all are counted; and where all are counted, all pass
  count_all : (n : ℕ) → ((k : ℕ) → k < n → t k ≡ true) → count t n ≡ n
  unfolding count
  count_all n h = sum_ones (λ k. one (t k)) n (λ k l. one_yes (h k l))

  all_counted : (n : ℕ) → count t n ≡ n → (k : ℕ) → k < n → t k ≡ true
  unfolding count sum
  all_counted zero e k l = absurd (omega arith)
  all_counted (suc n) e k l =
      let low : sum (λ k. one (t k)) n ≤ n = count_most t n in
      by_cases (ℕ_discrete k n)
      (λ d. rw d (one_true (t n) (omega (arith, one_most (t n)))))
      (λ d. all_counted n (omega (arith, one_most (t n))) k (omega arith))

pub full_used : (e : Table) → (free_entry e.node ≡ none) ↔ (used e ≡ e.rows + length e.node)
unfolding used taken
full_used e = (
  λ h. ap (λ (k : ℕ). e.rows + k) (count_all (taken e) (length e.node) (λ i l. not_yes (ne_eqb _ 0 (free_none e.node h i l)))),
  λ h. none_free e.node (λ i l. not_of _ 0 (all_counted (taken e) (length e.node) (omega arith) i l)),
)

-- How many read a row from one place: node by node

module _ (t : Tree) (e : Table) (r p : ℕ) where
  reads_from_lem : (n : ℕ) → Alive t n → place t e n r ≡ p → reads_from t e r p n ≡ true
  unfolding reads_from
  reads_from_lem n a h = and_yes (eq-eqb _ 1 a.1) (eq-eqb _ p h)

  from_reads : (n : ℕ) → n < 128 → reads_from t e r p n ≡ true → Alive t n × (place t e n r ≡ p)
  unfolding reads_from
  from_reads n l h = let (a, b) = both (eqb (at t.state n) 1) (eqb (place t e n r) p) h in ((l, eqb-true _ 1 a), eqb-true _ p b)

-- those below n are counted, in every table whose notes these are
pub record Counted (t : Tree) (notes : List ℕ) (r p n c : ℕ) : Type 0 where
  pub most : n ≤ 128
  pub few : c ≤ n
  pub sums : (e : Table) → Noted e r notes → c ≡ count (reads_from t e r p) n

module _ (t : Tree) (notes : List ℕ) (r p : ℕ) where
  pub counted_start : Counted t notes r p 0 0
  counted_start = record { most = omega arith; few = omega arith; sums = λ e d. sym (count_none (reads_from t e r p)) }

  pub counted_yes : {n c : ℕ} → n < 128 → Counted t notes r p n c → at t.state n ≡ 1 → Climbed t notes n r p → Counted t notes r p (n + 1) (c + 1)
  counted_yes {n} l h a x = record {
    most = omega arith;
    few = omega (arith, h.few);
    sums = λ e d. omega (arith, h.sums e d, count_yes (reads_from t e r p) n (reads_from_lem t e r p n (l, a) (sym (x e d))));
  }

  pub counted_no : {n c : ℕ} → n < 128 → Counted t notes r p n c → (at t.state n ≡ 1 → (e : Table) → Noted e r notes → place t e n r ≢ p) → Counted t notes r p (n + 1) c
  counted_no {n} {c} l h f = record { most = omega arith; few = omega (arith, h.few); sums = λ e d. h.sums e d ∙ sym (count_no (reads_from t e r p) n (no e d (reads_from t e r p n) refl)) }
    where
      no : (e : Table) → Noted e r notes → (b : Bool) → reads_from t e r p n ≡ b → reads_from t e r p n ≡ false
      no e d true x = let (a, q) = from_reads t e r p n l x in absurd (f a.1 e d q)
      no e d false x = x

  -- past nodes that are not in use
  pub counted_past : {n c : ℕ} (k : ℕ) → n + k ≤ 128 → ((m : ℕ) → n ≤ m → m < n + k → at t.state m ≡ 0) → Counted t notes r p n c → Counted t notes r p (n + k) c
  counted_past {n} zero l f h = let e : n ≡ n + 0 = omega arith in rw (← e) h
  counted_past {n} (suc k) l f h =
      let e : (n + k) + 1 ≡ n + suc k = omega arith in
      rw (← e) (counted_no (omega arith) (counted_past k (omega arith) (λ m a b. f m a (omega arith)) h) (λ a. absurd (omega (arith, a, f (n + k) (omega arith) (omega arith)))))

  pub counted_all : {n c : ℕ} → 128 ≤ n → Counted t notes r p n c → ReadersOf t notes r p c
  counted_all {n} l h e d = let x : n ≡ 128 = omega (arith, h.most) in h.sums e d ∙ ap (count (reads_from t e r p)) x

-- Shared rows

module _ (t : Tree) (e : Table) (v r : ℕ) where
  -- THE NUMBER AND SHARING: a version's row is shared exactly if more than one living version reads it from its place
  pub shared_number : Alive t v → (1 < sharers_at t e v r) ↔ SharedAt t e v r
  unfolding sharers_at
  shared_number a = (
    λ l. let (m, n, k, h, d, x, y) = count_pair (reads_from t e r (place t e v r)) 128 l in other m n d (from_reads t e r (place t e v r) m k x) (from_reads t e r (place t e v r) n h y),
    λ (n, b, d, p). count_two (reads_from t e r (place t e v r)) 128 n v b.0 a.0 d (reads_from_lem t e r (place t e v r) n b p) (reads_from_lem t e r (place t e v r) v a refl),
  )
    where
      -- one of two is not v
      other : (m n : ℕ) → m ≢ n → Alive t m × (place t e m r ≡ place t e v r) → Alive t n × (place t e n r ≡ place t e v r) → SharedAt t e v r
      other m n d (b, p) (c, q) = by_cases (ℕ_discrete m v) (λ x. (n, c, (λ y. d (x ∙ sym y)), q)) (λ x. (m, b, x, p))

  -- The test answers whether the row is shared

  sharer_yes : (n : ℕ) → Alive t n → n ≢ v → place t e n r ≡ place t e v r → is_sharer t e v r n ≡ true
  unfolding is_sharer
  sharer_yes n a h p = and_yes (not_yes (ne_eqb n v h)) (reads_from_lem t e r (place t e v r) n a p)

  sharer_of : (n : ℕ) → n < 128 → is_sharer t e v r n ≡ true → SharedAt t e v r
  unfolding is_sharer
  sharer_of n l h =
      let (b, f) = both (not (eqb n v)) (reads_from t e r (place t e v r) n) h in
      let (a, p) = from_reads t e r (place t e v r) n l f in
      (n, a, not_of n v b, p)

  pub shared_decides : Decides (shared_at t e v r) (SharedAt t e v r)
  unfolding shared_at
  shared_decides = go (first (is_sharer t e v r) 128) refl
    where
      go : (o : Option ℕ) → first (is_sharer t e v r) 128 ≡ o → Decides (is_found o) (SharedAt t e v r)
      go (some n) h = let s = first_some (is_sharer t e v r) 128 n h in sharer_of n s.low s.passes
      go none h = λ (n, a, x, p). false≢true (sym (first_none (is_sharer t e v r) 128 h n a.0) ∙ sharer_yes n a x p)
