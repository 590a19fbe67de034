-- Laws of the table's check: what the marks say after each entry, when going up meets a node, rules 6 and 7 one entry at a time. Assumes nothing.
use Rattle.std.specs.Prelude.{◌≡◌, refl, ◌≢◌, ◌↔◌, Bool, true, false, List, ℕ, eqb, ◌+◌, ◌*◌, ◌/◌, ◌≤◌, ◌<◌, length, set, replicate}
use Rattle.std.proofs.Common.{sym, ◌∙◌, ap, arith, eqb-true, length-set, get_or-set_same, get_or-set_other}
use Rattle.std.proofs.Math.Logic.{by_cases}
use Rattle.std.proofs.lemmas.Bool.{false≢true, eqb-false}
use Rattle.std.proofs.Math.Decide.{ℕ_discrete, dec_lt}
use Rattle.std.proofs.lemmas.List.{length-replicate, get_or-replicate}
use Rattle.std.proofs.Math.ListN.{get_or-eq_default}
use Rattle.basics.specs.Decide.{at}
use Rattle.bits.specs.Bits.{has, joined}
use Rattle.bits.specs.Laws.{has_none, joined_size, joined_bytes, has_joined, has_others}
use Rattle.trees.specs.declared.Tree.{Tree}
use Rattle.trees.specs.Trees.{Table, InUse, Alive, up}
use Rattle.trees.specs.Reading.{Owns, Reads, origin, own}
use Rattle.trees.specs.Rules.{Linked, Excepting}
use Rattle.tree.specs.Loops.{Climbing, climb_over, linked_reaches}
use Rattle.table.specs.Rules.{ReadAt, slot, Marked, EntryFits, Verdict, Entering, Meets, here, above, Met, Judging, Nodes, Blank}

-- Marks

module _ (e : Table) (marks : List ℕ) where
  -- before the first entry nothing is marked
  pub marked_none : e.rows * 16 ≤ length marks → ((k : ℕ) → at marks k ≡ 0) → Marked e marks 0
  marked_none l h = record {
    room = l;
    bytes = λ k. omega (arith, h k);
    named = λ n r j z m s k o. absurd (omega arith);
    only = λ n r z m s x. absurd (false≢true (sym (has_none marks (slot n r) (h (slot n r / 8))) ∙ x));
  }

  -- a free place leaves the marks as they are
  pub marked_free : (i : ℕ) → at e.node i ≡ 0 → Marked e marks i → Marked e marks (i + 1)
  marked_free i f m = record {
    room = m.room;
    bytes = m.bytes;
    named = λ n r j z l s k o. by_cases (ℕ_discrete j i)
        (λ x. absurd (z (sym o.1 ∙ ap (at e.node) x ∙ f)))
        (λ x. m.named n r j z l s (omega arith) o);
    only = λ n r z l s x. let (j, k, o) = m.only n r z l s x in (j, omega arith, o);
  }

  -- an exception marks its node and row, and no other
  pub marked_more : (n r i : ℕ) → n < 128 → r < e.rows → Owns e n r i → has marks (slot n r) ≡ false → Marked e marks i → Marked e (joined marks (slot n r)) (i + 1)
  marked_more n r i l s o f m = record {
    room = omega (arith, m.room, joined_size marks (slot n r) inside byte f);
    bytes = joined_bytes marks (slot n r) inside byte f m.bytes;
    named = λ a b j z k w h p. by_cases (ℕ_discrete (slot a b) (slot n r))
        (λ x. ap (has (joined marks (slot n r))) x ∙ has_joined marks (slot n r) inside byte f)
        (λ x. other a b x ∙ m.named a b j z k w (earlier a b j h p x) p);
    only = λ a b z k w x. by_cases (ℕ_discrete (slot a b) (slot n r))
        (λ y. (i, omega arith, (o.0, omega (arith, o.1), omega (arith, o.2))))
        (λ y. let (j, h, p) = m.only a b z k w (sym (other a b y) ∙ x) in (j, omega arith, p));
  }
    where
      inside : slot n r < 8 * length marks
      inside = omega (arith, m.room)

      byte : at marks (slot n r / 8) < 256
      byte = m.bytes (slot n r / 8)

      other : (a b : ℕ) → slot a b ≢ slot n r → has (joined marks (slot n r)) (slot a b) ≡ has marks (slot a b)
      other a b x = has_others marks (slot n r) inside byte f (slot a b) x

      earlier : (a b j : ℕ) → j < i + 1 → Owns e a b j → slot a b ≢ slot n r → j < i
      earlier a b j h p x = by_cases (ℕ_discrete j i) (λ y. absurd (x (cc))) (λ y. omega arith)

  -- a node without an own row has no mark there
  pub unmarked : (n r i : ℕ) → n ≢ 0 → n < 128 → r < e.rows → Marked e marks i → ((j : ℕ) → j < i → Owns e n r j → ⊥) → has marks (slot n r) ≡ false
  unmarked n r i z l s m h = go (has marks (slot n r)) refl
    where
      go : (b : Bool) → has marks (slot n r) ≡ b → b ≡ false
      go true x = let (j, k, o) = m.only n r z l s x in absurd (h j k o)
      go false x = refl

-- what a table needs before its first entry is tested
pub entering_first : (e : Table) (marks : List ℕ) → length e.row ≡ length e.node → e.rows ≤ 1024 → Blank e.rows marks → Entering e marks 0
entering_first e marks h f b = record { halves = h; few = f; marked = marked_none e marks (b.room f) b.zero }

pub blank_zeros : (rows n : ℕ) → (rows ≤ 1024 → rows * 16 ≤ n) → Blank rows (replicate n 0)
blank_zeros rows n h = record {
  room = λ l. omega (arith, h l, length-replicate {A = ℕ} n 0);
  zero = λ k. by_cases (dec_lt k n)
      (λ l. get_or-replicate {A = ℕ} n k 0 0 l)
      (λ l. get_or-eq_default (replicate n 0) 0 {n = k} (omega (arith, length-replicate {A = ℕ} n 0)));
}

-- Numbers of nodes

pub nodes_none : Nodes (replicate 128 0)
nodes_none = record {
  size = length-replicate {A = ℕ} 128 0;
  node = λ k l. omega (arith, get_or-replicate {A = ℕ} 128 k 0 0 l);
}

pub nodes_set : (xs : List ℕ) (i x : ℕ) → x < 128 → Nodes xs → Nodes (set xs i x)
nodes_set xs i x l h = record {
  size = length-set xs i x ∙ h.size;
  node = λ k m. by_cases (ℕ_discrete k i)
      (λ e. omega (arith, l, ap (at (set xs i x)) e ∙ get_or-set_same xs i x 0 (omega (arith, h.size))))
      (λ e. omega (arith, h.node k m, get_or-set_other xs i k x 0 e));
}

-- Going up to a node or a mark

module _ (t : Tree) (marks : List ℕ) (r g : ℕ) where
  -- past a node without a mark
  pub meets_up : {n : ℕ} → n ≢ g → n ≢ 0 → has marks (slot n r) ≡ false → Meets t marks r g n ↔ Meets t marks r g (up t n)
  meets_up a z f = (λ d. through d a, λ d. above a z f d)
    where
      through : {n : ℕ} → Meets t marks r g n → n ≢ g → Meets t marks r g (up t n)
      through (here x) a = absurd (a x)
      through (above x y h d) a = d

  -- not from node 0, and not past a mark
  pub meets_root : {n : ℕ} → n ≢ g → n ≡ 0 → Meets t marks r g n → ⊥
  meets_root a z (here x) = a x
  meets_root a z (above x y h d) = y z

  pub meets_marked : {n : ℕ} → n ≢ g → has marks (slot n r) ≡ true → Meets t marks r g n → ⊥
  meets_marked a f (here x) = a x
  meets_marked a f (above x y h d) = false≢true (sym h ∙ f)

-- a climb from a node in use of a linked tree has fewer than 128 steps
pub climb_ends : (t : Tree) (n node : ℕ) → Linked t → InUse t n → Climbing t n node 128 → ⊥
climb_ends t n node l u c = climb_over t n node (record { parents = λ m k. l.parent m; used = u }) c (linked_reaches t l n u)

-- One entry

-- where the verdict is bad nobody reads the marks
pub verdict_no : {P : Type 0} (e : Table) (i : ℕ) (marks : List ℕ) → (P → ⊥) → Verdict P e i marks false
verdict_no e i marks h = record { decided = h; marked = λ x. absurd (false≢true x) }

-- an exception that fits names a node in use and a row
pub fits_named : (t : Tree) (e : Table) (n r i : ℕ) → n ≢ 0 → Owns e n r i → EntryFits t e i → InUse t n × (r < e.rows)
fits_named t e n r i z o f = rw (← o.1, ← o.2) (f.named (λ x. z (sym o.1 ∙ x)))

module _ (t : Tree) (e : Table) (marks : List ℕ) (i : ℕ) where
  -- a free place with row 0 fits
  pub entered_free : at e.node i ≡ 0 → at e.row i ≡ 0 → Marked e marks i → Verdict (EntryFits t e i) e (i + 1) marks true
  entered_free f g m = record {
    decided = record { free = λ x. g; named = λ z. absurd (z f); once = λ j k z a b. z f };
    marked = λ x. marked_free e marks i f m;
  }

  -- a free place fits if and only if its row is 0
  pub entered_row : at e.node i ≡ 0 → Marked e marks i → Verdict (EntryFits t e i) e (i + 1) marks (eqb (at e.row i) 0)
  entered_row f m = go (eqb (at e.row i) 0) refl
    where
      go : (b : Bool) → eqb (at e.row i) 0 ≡ b → Verdict (EntryFits t e i) e (i + 1) marks b
      go true x = entered_free f (eqb-true _ 0 x) m
      go false x = verdict_no e (i + 1) marks (λ h. eqb-false _ 0 x (h.free f))

  module _ (h : Entering e marks i) (n r : ℕ) (z : n ≢ 0) (o : Owns e n r i) where
    -- an exception that fits names what no entry before it names
    pub fits_unmarked : EntryFits t e i → has marks (slot n r) ≡ false
    fits_unmarked f =
        let (u, l) = fits_named t e n r i z o f in
        unmarked e marks n r i z u.0 l h.marked (λ j k p. f.once j k (λ y. z (sym o.1 ∙ y)) (p.1 ∙ sym o.1) (p.2 ∙ sym o.2))

    -- an exception that names a node in use and a row, without a mark, fits and gets its mark
    pub entered_new : InUse t n → r < e.rows → has marks (slot n r) ≡ false → Verdict (EntryFits t e i) e (i + 1) (joined marks (slot n r)) true
    entered_new u l f = record {
      decided = record {
        free = λ x. absurd (z (sym o.1 ∙ x));
        named = λ x. rw (o.1, o.2) (u, l);
        once = λ j k x a b. false≢true (sym f ∙ h.marked.named n r j z u.0 l k (omega (arith, o.0), a ∙ o.1, b ∙ o.2));
      };
      marked = λ x. marked_more e marks n r i u.0 l o f h.marked;
    }

-- Rule 6, one entry at a time

module _ (t : Tree) (e : Table) where
  pub excepting_entry : Excepting t e → (i : ℕ) → i < length e.node → EntryFits t e i
  excepting_entry x i l = record {
    free = x.free i l;
    named = x.named i l;
    once = λ j k z a b. omega (arith, x.once j i (at e.node i) (at e.row i) z (omega arith, a, b) (l, refl, refl));
  }

  pub excepting_all : ((i : ℕ) → i < length e.node → EntryFits t e i) → Excepting t e
  excepting_all h = record {
    free = λ i l. (h i l).free;
    named = λ i l. (h i l).named;
    once = λ i j n r z a b. by_cases (dec_lt i j) (λ l. absurd (apart i j n r z a b l))
        (λ l. by_cases (dec_lt j i) (λ m. absurd (apart j i n r z b a m)) (λ m. omega arith));
  }
    where
      apart : (i j n r : ℕ) → n ≢ 0 → Owns e n r i → Owns e n r j → i < j → ⊥
      apart i j n r z a b l = (h j b.0).once i l (λ x. z (sym b.1 ∙ x)) (a.1 ∙ sym b.1) (a.2 ∙ sym b.2)

-- Rule 7, one entry at a time

module _ (t : Tree) (e : Table) (marks : List ℕ) (h : Judging t e marks) where
  -- from a node in use, to meet g at row r is to read g's own row r
  pub meets_reads : {g r i n : ℕ} → g ≢ 0 → r < e.rows → Owns e g r i → InUse t n → Meets t marks r g n → Reads t e r (e.rows + i) n
  meets_reads z l o u (here x) = own (λ y. z (sym x ∙ y)) (o.0, o.1 ∙ sym x, o.2) refl
  meets_reads {r = r} z l o u (above {n = n} x y f d) = Reads.above y
      (λ j p. false≢true (sym f ∙ h.marked.named n r j y u.0 l p.0 p))
      (meets_reads z l o (h.fitting.linked.parent n y u) d)

  pub reads_meets : {g r i p n : ℕ} → p ≡ e.rows + i → r < e.rows → Owns e g r i → InUse t n → Reads t e r p n → Meets t marks r g n
  reads_meets q l o u (origin x y) = absurd (omega arith)
  reads_meets {i = i} q l o u (own {i = j} z p y) = let k : j ≡ i = omega arith in here (sym p.1 ∙ ap (at e.node) k ∙ o.1)
  reads_meets {g} {r} q l o u (Reads.above {n = n} z f d) = by_cases (ℕ_discrete n g) (λ x. here x)
      (λ x. above x z (unmarked e marks n r _ z u.0 l h.marked (λ j k p. f j p)) (reads_meets q l o (h.fitting.linked.parent n z u) d))

  -- a living node reads its own row
  pub read_own : (i : ℕ) → i < length e.node → at t.state (at e.node i) ≡ 1 → ReadAt t e i
  read_own i l a z = (at e.node i, ((h.excepting.named i l z).0.0, a), own z (l, refl, refl) refl)

  -- an exception is read if and only if its node is met from some living node
  pub met_read : (g r i : ℕ) → g ≢ 0 → Owns e g r i → Met t marks r g ↔ ReadAt t e i
  met_read g r i z o = (
    λ m k. (m.0, m.1, rw o.2 (meets_reads z low o (used m.0 m.1) m.2)),
    λ k. let (n, a, d) = k (λ x. z (sym o.1 ∙ x)) in (n, a, reads_meets refl low o (used n a) (rw o.2 at d)),
  )
    where
      low : r < e.rows
      low = omega (arith, o.2, (h.excepting.named i o.0 (λ x. z (sym o.1 ∙ x))).1)

      used : (n : ℕ) → Alive t n → InUse t n
      used n a = (a.0, λ x. omega (arith, a.1))
