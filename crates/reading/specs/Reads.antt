-- Laws of reading: one place, and only one, at every node in use; the function gives what the relation says. Assumes nothing.
use Rattle.std.specs.Prelude.{◌≡◌, ◌≢◌, ◌↔◌, true, eqb, length}
use Rattle.std.proofs.Math.Path.{refl, sym}
use Rattle.std.proofs.Common.{◌∙◌, ap, add-one, arith}
use Rattle.std.proofs.Math.Logic.{by_cases}
use Rattle.std.proofs.Math.Bool.{false≢true}
use Rattle.std.proofs.Math.Option.{Option, none, some}
use Prim.Native.Nat.{ℕ, zero, suc, ◌+◌, ◌≤◌, ◌<◌}
use Rattle.std.proofs.Math.Decide.{ℕ_discrete}
use borrow.Author.Tests.{eq-eqb, ne_eqb, eqb-true}
use Rattle.basics.specs.Decide.{at, and_yes, both}
use Rattle.basics.proofs.CountLaws.{first_some, first_none, first_only}
use Rattle.trees.specs.declared.Tree.{Tree}
use Rattle.trees.specs.Trees.{Table, InUse, up, ancestor}
use Rattle.trees.specs.Reading.{Owns, Reads, origin, own, above, owns, entry, place_or, climb, place}
use Rattle.trees.specs.Rules.{Linked, Excepting}
use Rattle.tree.specs.Going.{ancestor_zero, near}

-- A node's own row

module _ (e : Table) where
  pub owns_yes : (n r i : ℕ) → Owns e n r i → owns e n r i ≡ true
  unfolding owns
  owns_yes n r i h = and_yes (eq-eqb _ n h.1) (eq-eqb _ r h.2)

  pub owns_of : (n r i : ℕ) → i < length e.node → owns e n r i ≡ true → Owns e n r i
  unfolding owns
  owns_of n r i l h =
      let (a, b) = both (eqb (at e.node i) n) (eqb (at e.row i) r) h in
      (l, eqb-true _ n a, eqb-true _ r b)

  pub entry_some : (n r i : ℕ) → entry e n r ≡ some i → Owns e n r i
  unfolding entry
  entry_some n r i h = let s = first_some (owns e n r) (length e.node) i h in owns_of n r i s.low s.passes

  pub entry_none : (n r : ℕ) → entry e n r ≡ none → (i : ℕ) → Owns e n r i → ⊥
  unfolding entry
  entry_none n r h i o = false≢true (sym (first_none (owns e n r) (length e.node) h i o.0) ∙ owns_yes n r i o)

  -- where no two entries name the same node and row, an own row is the entry that is found
  pub entry_own : ((i j n r : ℕ) → n ≢ 0 → Owns e n r i → Owns e n r j → i ≡ j) → (n r i : ℕ) → n ≢ 0 → Owns e n r i → entry e n r ≡ some i
  unfolding entry
  entry_own once n r i z o = first_only (owns e n r) (length e.node) i o.0 (owns_yes n r i o) (λ j l h. once j i n r z (owns_of n r j l h) o)

-- The relation

module _ (t : Tree) (e : Table) where
  -- a node without an own row reads what its parent reads
  pub reads_up : {r p n : ℕ} → n ≢ 0 → ((i : ℕ) → Owns e n r i → ⊥) → Reads t e r p n ↔ Reads t e r p (up t n)
  reads_up {r} {p} {n} z h = (λ d. through d z h, λ d. above z h d)
    where
      through : {n : ℕ} → Reads t e r p n → n ≢ 0 → ((i : ℕ) → Owns e n r i → ⊥) → Reads t e r p (up t n)
      through (origin x y) z h = absurd (z x)
      through (own {i = i} x o y) z h = absurd (h i o)
      through (above x o d) z h = d

  module _ (once : (i j n r : ℕ) → n ≢ 0 → Owns e n r i → Owns e n r j → i ≡ j) where
    pub reads_own : {r p n i : ℕ} → n ≢ 0 → Owns e n r i → Reads t e r p n → p ≡ e.rows + i
    reads_own z o (origin x y) = absurd (z x)
    reads_own {r} {n = n} {i} z o (own {i = j} x q y) = y ∙ ap (λ (k : ℕ). e.rows + k) (once j i n r z q o)
    reads_own {i = i} z o (above x q d) = absurd (q i o)

    -- single-valued
    pub reads_one : {r p q n : ℕ} → Reads t e r p n → Reads t e r q n → p ≡ q
    reads_one (origin x y) (origin a b) = y ∙ sym b
    reads_one (origin x y) (own a o b) = absurd (a x)
    reads_one (origin x y) (above a o d) = absurd (a x)
    reads_one (own x o y) d = y ∙ sym (reads_own x o d)
    reads_one (above x o c) (origin a b) = absurd (x a)
    reads_one (above x o c) (own {i = i} a h b) = absurd (o i h)
    reads_one (above x o c) (above a h d) = reads_one c d

  -- The function, step by step

  pub climb_root : (r k n : ℕ) → n ≡ 0 → climb t e r k n ≡ r
  unfolding climb
  climb_root r zero n h = refl
  climb_root r (suc k) n h = rw (eq-eqb n 0 h)

  pub climb_own : (r k n i : ℕ) → n ≢ 0 → entry e n r ≡ some i → climb t e r (k + 1) n ≡ e.rows + i
  unfolding climb
  climb_own r k n i z h = rw (add-one k, ne_eqb n 0 z, h)

  pub climb_up : (r k n : ℕ) → n ≢ 0 → entry e n r ≡ none → climb t e r (k + 1) n ≡ climb t e r k (up t n)
  unfolding climb
  climb_up r k n z h = rw (add-one k, ne_eqb n 0 z, h)

  -- with steps enough to reach node 0 it gives what the node reads
  climb_reads : (r k n : ℕ) → ancestor (up t) k n ≡ 0 → Reads t e r (climb t e r k n) n
  unfolding climb ancestor
  climb_reads r zero n h = origin h refl
  climb_reads r (suc k) n h = by_cases (ℕ_discrete n 0)
      (λ z. rw (eq-eqb n 0 z) (origin z refl))
      (λ z. rw (ne_eqb n 0 z) (go z (entry e n r) refl (climb_reads r k (up t n) h)))
    where
      go : n ≢ 0 → (o : Option ℕ) → entry e n r ≡ o → Reads t e r (climb t e r k (up t n)) (up t n) → Reads t e r (place_or e.rows o (climb t e r k (up t n))) n
      go z (some i) x d = own z (entry_some e n r i x) refl
      go z none x d = above z (entry_none e n r x) d

-- further steps change nothing
pub climb_more : (t : Tree) (e : Table) (r k m n : ℕ) → k ≤ m → ancestor (up t) k n ≡ 0 → climb t e r m n ≡ climb t e r k n
unfolding climb ancestor
climb_more t e r zero m n l h = climb_root t e r m n h
climb_more t e r (suc k) zero n l h = absurd (omega arith)
climb_more t e r (suc k) (suc m) n l h = by_cases (ℕ_discrete n 0)
    (λ z. rw (eq-eqb n 0 z))
    (λ z. rw (ne_eqb n 0 z) (ap (place_or e.rows (entry e n r)) (climb_more t e r k m (up t n) (omega arith) h)))

-- At the nodes in use of a tree whose nodes reach node 0

module _ (t : Tree) (l : Linked t) (e : Table) where
  close : (n : ℕ) → InUse t n → (k : ℕ) × (k < 128) × (ancestor (up t) k n ≡ 0)
  close n u = by_cases (ℕ_discrete n 0)
      (λ z. (0, omega arith, ancestor_zero (up t) n ∙ z))
      (λ z. near (up t) 128 (InUse t) (λ m v. v.0) (λ m x v. l.parent m x v) n u (l.reaches n z u))

  -- reading is defined: the function gives a place that the node reads
  pub place_reads : (n r : ℕ) → InUse t n → Reads t e r (place t e n r) n
  unfolding place
  place_reads n r u =
      let (k, m, h) = close n u in
      rw (climb_more t e r k 128 n (omega arith) h) (climb_reads t e r k n h)

  -- and by single-valuedness it is the only one
  pub reads_place : Excepting t e → (n r p : ℕ) → InUse t n → Reads t e r p n ↔ (p ≡ place t e n r)
  reads_place x n r p u = (λ d. reads_one t e x.once d (place_reads n r u), λ h. rw h (place_reads n r u))

  -- the equations of reading
  pub place_root : (r : ℕ) → place t e 0 r ≡ r
  unfolding place
  place_root r = climb_root t e r 128 0 refl

  pub place_own : (n r i : ℕ) → n ≢ 0 → entry e n r ≡ some i → place t e n r ≡ e.rows + i
  unfolding place
  place_own n r i z h = climb_own t e r 127 n i z h

  pub place_up : (n r : ℕ) → n ≢ 0 → InUse t n → entry e n r ≡ none → place t e n r ≡ place t e (up t n) r
  unfolding place
  place_up n r z u h =
      let v = l.parent n z u in
      let (k, m, x) = close (up t n) v in
      climb_up t e r 127 n z h ∙ climb_more t e r k 127 (up t n) (omega arith) x ∙ sym (climb_more t e r k 128 (up t n) (omega arith) x)
