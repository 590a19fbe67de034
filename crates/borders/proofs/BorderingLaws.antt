-- A border that has come to row i: what it has done, and what the next row makes of it. Assumes nothing.
use Rattle.std.specs.Prelude.{◌≡◌, List, ℕ, suc, ◌+◌, ◌-◌, ◌*◌, ◌≤◌, ◌<◌, length, take, drop}
use Rattle.std.proofs.Math.Path.{refl}
use Rattle.std.proofs.Common.{sym, ◌∙◌, ap, arith, zero-add, mul-le-mul_left, mul-le-mul_right, le_trans, length-drop, length-take-le}
use Rattle.std.proofs.Math.Option.{Option, none, some}
use Rattle.basics.specs.Decide.{at}
use Rattle.measures.specs.declared.Size.{Size}
use Rattle.measures.specs.Rows.{rows_from, rows_all, rows_over, rows_next}
use Rattle.records.specs.Records.{records_of}
use Rattle.answers.specs.declared.Refusal.{Refusal}
use Rattle.answers.proofs.Laws.{verdict_none}
use Rattle.answers.specs.InOrder.{Ended, in_order}
use Rattle.answers.specs.InOrderLaws.{order_ends, order_goes}
use Rattle.soundness.specs.Judged.{Leaves}
use Rattle.placing.specs.Laws.{apart}
use Rattle.owning.specs.Owning.{Held}
use Rattle.intact.specs.Intact.{Intact}
use Rattle.wrote.specs.Wrote.{write_intact}
use Rattle.borders.specs.Bordering.{row_verdict, row_written, rows_written, Ends}

-- row i lies inside the bytes, and all of them are few
pub row_inside : (width n i : ℕ) → i < n → n ≤ 64 → width ≤ 1024 → (i * width + width ≤ n * width) × (n * width ≤ 65536)
row_inside width n i l few narrow = (apart width i n l, le_trans (mul-le-mul_right width few) (mul-le-mul_left 64 narrow))

-- the part of the bytes that is lent for it is its own
pub row_part : (width from : ℕ) (bytes : List ℕ) → take ((from + width) - from) (drop from bytes) ≡ take width (drop from bytes)
row_part width from bytes = let e : (from + width) - from ≡ width = omega arith in rw e

pub part_size : (width from : ℕ) (bytes : List ℕ) → from + width ≤ length bytes → length (take ((from + width) - from) (drop from bytes)) ≡ width
part_size width from bytes l = rw (row_part width from bytes) (length-take-le width (drop from bytes) (omega (arith, l, length-drop from bytes)))

-- with i rows done before
abbrev pub past : ℕ → Ended Held → Ended Held
past i e = record { done = i + e.done; refusal = e.refusal; left = e.left }

-- A border from h₀ that has come to row i: the store is intact, and the rows from i on, on what is there, end as the whole border does

pub record Along (size : Size) (tag : ℕ) (rows bytes : List ℕ) (h₀ : Held) (i : ℕ) (h : Held) : Type 0 where
  pub most : i ≤ length rows
  pub intact : Intact (records_of size h.tree h.node h.row) h.places
  pub goes : rows_written size tag h₀ rows bytes ≡ past i (in_order (row_verdict size tag) (row_written size tag) h (rows_from size.width rows bytes i))

module _ (size : Size) (tag : ℕ) (rows bytes : List ℕ) where
  abbrev verdict : Held → ℕ × List ℕ → Option Refusal
  verdict = row_verdict size tag

  abbrev next : Held → ℕ × List ℕ → Held
  next = row_written size tag

  pub along_start : (h : Held) → Intact (records_of size h.tree h.node h.row) h.places → Along size tag rows bytes h 0 h
  along_start h k = record {
    most = omega arith;
    intact = k;
    goes =
        let x = in_order verdict next h (rows_from size.width rows bytes 0) in
        ap (λ (xs : List (ℕ × List ℕ)). in_order verdict next h xs) (sym (rows_all size.width rows bytes)) ∙ ap (λ (n : ℕ). record { done = n; refusal = x.refusal; left = x.left }) (sym (zero-add x.done));
  }

  module _ {h₀ : Held} {i : ℕ} {h : Held} (a : Along size tag rows bytes h₀ i h) where
    -- every row is done
    pub along_over : length rows ≤ i → Ends (rows_written size tag h₀ rows bytes) 0 i h
    unfolding in_order
    along_over l =
        let e : rows_written size tag h₀ rows bytes ≡ record { done = i + 0; refusal = none; left = h } = a.goes ∙ rw (rows_over size.width rows bytes i l) in
        rw e (record { numbered = refl; counted = omega arith; left = refl })

    module _ (l : i < length rows) {n : ℕ} {got : Held}
        (k : Leaves (verdict h (at rows i, take size.width (drop (i * size.width) bytes))) h (next h (at rows i, take size.width (drop (i * size.width) bytes))) n got) where
      abbrev row : ℕ × List ℕ
      row = (at rows i, take size.width (drop (i * size.width) bytes))

      -- row i is refused
      pub along_ends : (n ≡ 0 → ⊥) → Ends (rows_written size tag h₀ rows bytes) n i got
      along_ends off = go (verdict h row) refl k
        where
          go : (v : Option Refusal) → verdict h row ≡ v → Leaves v h (next h row) n got → Ends (rows_written size tag h₀ rows bytes) n i got
          go none e m = absurd (off m.numbered)
          go (some x) e m =
              let f : rows_written size tag h₀ rows bytes ≡ record { done = i + 0; refusal = some x; left = h } = a.goes ∙ rw (rows_next size.width rows bytes i l, order_ends verdict next h row (rows_from size.width rows bytes (i + 1)) e) in
              rw f (record { numbered = m.numbered; counted = omega arith; left = m.left })

      -- row i is done
      pub along_next : n ≡ 0 → Along size tag rows bytes h₀ (i + 1) got
      along_next zero_number =
          let v = verdict_none (verdict h row) (sym k.numbered ∙ zero_number) in
          let e : got ≡ next h row = k.left ∙ rw v in
          let w = write_intact (records_of size h.tree h.node h.row) h.places a.intact tag row.0 row.1 in
          let m : i + suc (in_order verdict next (next h row) (rows_from size.width rows bytes (i + 1))).done ≡ (i + 1) + (in_order verdict next (next h row) (rows_from size.width rows bytes (i + 1))).done = omega arith in
          rw e (record {
            most = omega arith;
            intact = rw v at w;
            goes = a.goes ∙ rw (rows_next size.width rows bytes i l, order_goes verdict next h row (rows_from size.width rows bytes (i + 1)) v, m);
          })

-- the same row, said otherwise
pub row_left : (size : Size) (tag : ℕ) {r : ℕ} {bs : List ℕ} {h : Held} (q : ℕ) (cs : List ℕ) → r ≡ q → bs ≡ cs → {n : ℕ} {got : Held} → Leaves (row_verdict size tag h (r, bs)) h (row_written size tag h (r, bs)) n got
    → Leaves (row_verdict size tag h (q, cs)) h (row_written size tag h (q, cs)) n got
row_left size tag q cs e f k = rw (sym e, sym f) k
