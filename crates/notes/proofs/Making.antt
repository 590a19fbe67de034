-- Laws of making notes: entry by entry and stretch by stretch they become exact. Assumes nothing.
use Rattle.std.specs.Prelude.{◌≡◌, ◌≢◌, Bool, ◌&&◌, cond, List, ℕ, zero, suc, ◌+◌, ◌-◌, ◌%◌, ◌≤◌, ◌<◌, take, drop, replicate, set}
use Rattle.std.proofs.Math.Path.{refl, ap}
use Rattle.std.proofs.Common.{sym, ◌∙◌, mod-eq_of_lt, arith, get_or-set_same}
use Rattle.std.proofs.Math.Logic.{by_cases}
use Rattle.std.proofs.Math.Bool.{true, false}
use Rattle.std.proofs.Math.Option.{Option, none, some}
use Rattle.std.proofs.Math.Decide.{ℕ_discrete}
use Rattle.std.proofs.Math.Dec.{eqb, ltb}
use Rattle.std.proofs.Math.ListN.{length, length-set}
use Rattle.std.proofs.lemmas.List.{get_or-replicate, length-replicate}
use Rattle.std.proofs.Math.Seq.{get_or-set_other}
use borrow.Author.Tests.{eq-eqb, ne_eqb, lt-ltb, le-ltb}
use Rattle.basics.specs.Decide.{at}
use Rattle.basics.specs.Count.{first}
use Rattle.basics.proofs.CountLaws.{first_start, first_yes, first_no, first_more}
use Rattle.trees.specs.Trees.{Table}
use Rattle.trees.specs.Reading.{owns, entry}
use Rattle.reading.specs.Reads.{owns_yes, owns_of}
use Rattle.scanning.specs.Among.{Among, stretch_none}
use Rattle.notes.specs.Notes.{note_of, Noted, Noting, joined}

-- A note

module _ (rows : ℕ) where
  pub note_none : note_of rows none ≡ 0
  unfolding note_of
  note_none = refl

  pub note_some : (i : ℕ) → note_of rows (some i) ≡ rows + i + 1
  unfolding note_of
  note_some i = refl

  pub no_note : (o : Option ℕ) → note_of rows o ≡ 0 → o ≡ none
  no_note (some i) h = absurd (omega (arith, note_some i))
  no_note none h = refl

-- One entry joins

module _ (rows i n : ℕ) (notes : List ℕ) where
  pub joined_out : 128 ≤ n → joined rows i n notes ≡ notes
  unfolding joined
  joined_out l = rw (le-ltb n 128 l)

  pub joined_kept : at notes n ≢ 0 → joined rows i n notes ≡ notes
  unfolding joined
  joined_kept h = go (ltb n 128) refl
    where
      go : (b : Bool) → ltb n 128 ≡ b → joined rows i n notes ≡ notes
      go true x = rw (x, ne_eqb (at notes n) 0 h)
      go false x = rw x

  pub joined_new : n < 128 → at notes n ≡ 0 → joined rows i n notes ≡ set notes n (rows + i + 1)
  unfolding joined
  joined_new l h = rw (lt-ltb n 128 l, eq-eqb (at notes n) 0 h, note_some rows i)

  joined_size : length (joined rows i n notes) ≡ length notes
  unfolding joined
  joined_size = go (ltb n 128 && eqb (at notes n) 0)
    where
      go : (b : Bool) → length (cond b (set notes n (note_of rows (some i))) notes) ≡ length notes
      go true = length-set notes n (note_of rows (some i))
      go false = refl

  joined_other : (m : ℕ) → m ≢ n → at (joined rows i n notes) m ≡ at notes m
  unfolding joined
  joined_other m x = go (ltb n 128 && eqb (at notes n) 0)
    where
      go : (b : Bool) → at (cond b (set notes n (note_of rows (some i))) notes) m ≡ at notes m
      go true = get_or-set_other notes n m (note_of rows (some i)) 0 x
      go false = refl

-- The loop through the table

module _ (e : Table) (r : ℕ) where
  pub noting_start : Noting e r (replicate 128 0) 0
  noting_start = record {
    most = omega arith;
    size = length-replicate {A = ℕ} 128 0;
    told = λ n l. get_or-replicate 128 n 0 0 l ∙ sym (ap (note_of e.rows) (first_start (owns e n r)) ∙ note_none e.rows);
  }

  -- an entry that is not node n's for this row
  past : (n i : ℕ) → i < length e.node → (at e.node i ≡ n → at e.row i ≡ r → ⊥) → first (owns e n r) (i + 1) ≡ first (owns e n r) i
  past n i l f = go (first (owns e n r) i) refl
    where
      no : (b : Bool) → owns e n r i ≡ b → owns e n r i ≡ false
      no true x = let o = owns_of e n r i l x in absurd (f o.1 o.2)
      no false x = x

      go : (o : Option ℕ) → first (owns e n r) i ≡ o → first (owns e n r) (i + 1) ≡ first (owns e n r) i
      go none x = first_no (owns e n r) i x (no (owns e n r i) refl) ∙ sym x
      go (some k) x = first_more (owns e n r) i (i + 1) k x (omega arith) ∙ sym x

  pub noting_past : {notes : List ℕ} {i : ℕ} → i < length e.node → at e.row i ≢ r → Noting e r notes i → Noting e r notes (i + 1)
  noting_past {i = i} l f h = record {
    most = omega arith;
    size = h.size;
    told = λ n m. h.told n m ∙ sym (ap (note_of e.rows) (past n i l (λ a b. f b)));
  }

  pub noting_next : {notes : List ℕ} {i : ℕ} → i < length e.node → at e.row i ≡ r → Noting e r notes i → Noting e r (joined e.rows i (at e.node i) notes) (i + 1)
  noting_next {notes} {i} l q h = record { most = omega arith; size = joined_size e.rows i (at e.node i) notes ∙ h.size; told = told }
    where
      here : (n : ℕ) → n < 128 → n ≡ at e.node i → (o : Option ℕ) → first (owns e n r) i ≡ o → at (joined e.rows i n notes) n ≡ note_of e.rows (first (owns e n r) (i + 1))
      here n m x none y =
          rw (first_yes (owns e n r) i y (owns_yes e n r i (l, sym x, q)), joined_new e.rows i n notes m (h.told n m ∙ ap (note_of e.rows) y ∙ note_none e.rows), note_some e.rows i)
          (get_or-set_same notes n (e.rows + i + 1) 0 (omega (arith, h.size)))
      here n m x (some k) y =
          let v : at notes n ≡ note_of e.rows (some k) = h.told n m ∙ ap (note_of e.rows) y in
          rw (first_more (owns e n r) i (i + 1) k y (omega arith), joined_kept e.rows i n notes (λ z. omega (arith, v, z, note_some e.rows k))) v

      told : (n : ℕ) → n < 128 → at (joined e.rows i (at e.node i) notes) n ≡ note_of e.rows (first (owns e n r) (i + 1))
      told n m = by_cases (ℕ_discrete n (at e.node i))
          (λ x. rw (← x) (here n m x (first (owns e n r) i) refl))
          (λ x. joined_other e.rows i (at e.node i) notes n x ∙ h.told n m ∙ sym (ap (note_of e.rows) (past n i l (λ a b. x (sym a)))))

  pub noting_all : {notes : List ℕ} {i : ℕ} → length e.node ≤ i → Noting e r notes i → Noted e r notes
  unfolding entry
  noting_all {i = i} l h n m = let x : i ≡ length e.node = omega (arith, h.most) in h.told n m ∙ ap (λ (k : ℕ). note_of e.rows (first (owns e n r) k)) x

-- a stretch without the row adds no note
pub noting_over : (e : Table) (r : ℕ) {notes : List ℕ} {i : ℕ} (to : ℕ) → to ≤ length e.node → length e.row ≡ length e.node → ((k : ℕ) → at e.row k < 65536) → i ≤ to
    → (Among (take (to - i) (drop i e.row)) (r % 65536) → ⊥) → Noting e r notes i → Noting e r notes to
noting_over e r {notes} {i} to m y b l f h = go (to - i) to (omega arith) (omega arith)
  where
    none : (k : ℕ) → i ≤ k → k < to → at e.row k ≢ r
    none k p q x = stretch_none e.row (r % 65536) i to (omega arith) f k p q (x ∙ sym (mod-eq_of_lt (let w = b k in omega arith)))

    go : (d k : ℕ) → k ≡ i + d → k ≤ to → Noting e r notes k
    go zero k x l = let y : k ≡ i = omega arith in rw y h
    go (suc d) k x l =
        let y : k ≡ (i + d) + 1 = omega arith in
        rw y (noting_past e r (omega arith) (none (i + d) (omega arith) (omega arith)) (go d (i + d) refl (omega arith)))
