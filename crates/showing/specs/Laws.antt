-- A row that is read is short; then a call that asks, with its line, whose number is the one that the call answered. Assumes nothing.
use Rattle.std.specs.Prelude.{◌≡◌, ◌≢◌, List, [], ◌∷◌, ℕ, ◌≤◌, length, drop}
use Rattle.std.proofs.Common.{refl, sym, arith, length-take}
use Rattle.std.proofs.Math.Logic.{by_cases}
use Rattle.std.proofs.Math.Option.{Option, none, some}
use Rattle.std.proofs.Math.Decide.{dec_le}
use Rattle.measures.specs.Measures.{bytes_at, begins_at}
use Rattle.records.specs.Records.{Records, tag_place}
use Rattle.records.specs.Sound.{Sound}
use Rattle.model.specs.Call.{read, count, one}
use Rattle.answers.specs.declared.Refusal.{Refusal}
use Rattle.answers.specs.Answers.{handed, row, refused_of}
use Rattle.answers.specs.Tests.{refusal, unless}
use Rattle.counting.specs.Counting.{counted, CountEnds}
use Rattle.reads.specs.Reads.{ReadEnds, read_tests, read_answer, row_of_tag, sharers_of_tag}
use Rattle.reads.proofs.Sizes.{same_bytes, read_some}
use Rattle.theorem.specs.Trace.{read_ends, count_ends}
use Rattle.text.specs.Text.{line, dash, pair_text, row_text, shown}
use Rattle.laying.specs.Laid.{Lays}
use Rattle.laying.specs.Laws.{lays_as}
use Rattle.text.specs.Laws.{shown_refused, shown_row, shown_counts, pair_most, row_most}
use Rattle.progress.specs.Replying.{Replied}

-- A read hands out a row's bytes at most

bytes_handed : (v : Option Refusal) (bs : List ℕ) (sharers n : ℕ) → length bs ≤ n → length (unless v (refused_of 1) (row bs sharers)).bytes ≤ n
bytes_handed none bs sharers n l = l
bytes_handed (some r) bs sharers n l = omega arith

bytes_most : (width : ℕ) (places : List ℕ) (p : ℕ) → length (bytes_at width places p) ≤ width
unfolding bytes_at
bytes_most width places p = omega (arith, length-take width (drop (begins_at width p) places))

answer_most : (z : Records) (places : List ℕ) (tag r : ℕ) → length (read_answer z places tag r).bytes ≤ z.size.width
unfolding read_answer row_of_tag
answer_most z places tag r =
    let w = z.size.width in
    bytes_handed (refusal (read_tests z (length places) tag r)) (bytes_at w places (tag_place z tag r)) (sharers_of_tag z tag r) w (bytes_most w places (tag_place z tag r))

pub read_most : (z : Records) (places : List ℕ) (tag r n : ℕ) {bs : List ℕ} {sharers : ℕ} → ReadEnds z places tag r n bs sharers → length bs ≤ z.size.width
read_most z places tag r n {bs = bs} e = by_cases (dec_le (length bs) z.size.width)
    (λ l. l)
    (λ f.
    let bad : Sound z → ⊥ = λ s. f (rw (same_bytes (e.sound s)) (answer_most z places tag r)) in
    let nothing : bs ≡ [] = same_bytes (e.unsound bad) in
    rw nothing (omega arith))

-- Calls and their lines, of the records as they are seen

module _ {k from to : ℕ} {out out' : List ℕ} where
  pub count_refused : {y z : Records} {places : List ℕ} {n u a : ℕ} → y ≡ z → n ≢ 0 → CountEnds y n u a → Lays out from (line k n dash) out' to → Replied z places (one count) k out from z places out' to
  count_refused {n = n} {u = u} {a = a} e f s l = let d = shown_refused (counted n u a) f in record {
    hands = counted n u a;
    ends = count_ends (rw e at s);
    lays = lays_as (rw d) l;
    short = rw d (omega arith);
  }

  pub count_replied : {y z : Records} {places : List ℕ} {u a : ℕ} → y ≡ z → CountEnds y 0 u a → Lays out from (line k 0 (pair_text u a)) out' to → Replied z places (one count) k out from z places out' to
  count_replied {u = u} {a = a} e s l = let d : shown (counted 0 u a) ≡ pair_text u a = shown_counts u a in record {
    hands = counted 0 u a;
    ends = count_ends (rw e at s);
    lays = lays_as (rw d) l;
    short = rw d (omega (arith, pair_most u a));
  }

  -- a read of row q
  pub read_refused : {z : Records} {places : List ℕ} {tag q x n u : ℕ} {bs : List ℕ} → x ≡ q → n ≢ 0 → ReadEnds z places tag x n bs u → Lays out from (line k n dash) out' to
      → Replied z places (one (read tag q)) k out from z places out' to
  read_refused {n = n} {u = u} {bs = bs} h f s l = let d = shown_refused (handed n bs (u ∷ [])) f in rw (sym h) (record {
    hands = handed n bs (u ∷ []);
    ends = read_ends s;
    lays = lays_as (rw d) l;
    short = rw d (omega arith);
  })

  pub read_replied : {y z : Records} {places : List ℕ} {tag q u : ℕ} {bs : List ℕ} → y ≡ z → ReadEnds y places tag q 0 bs u → Lays out from (line k 0 (row_text bs u)) out' to
      → Replied z places (one (read tag q)) k out from z places out' to
  read_replied {z = z} {places = places} {tag = tag} {q = q} {u = u} {bs = bs} e t l =
      let s : ReadEnds z places tag q 0 bs u = rw e at t in
      let d : shown (handed 0 bs (u ∷ [])) ≡ row_text bs u = shown_row bs u (read_some z places tag q s refl) in
      record {
        hands = handed 0 bs (u ∷ []);
        ends = read_ends s;
        lays = lays_as (rw d) l;
        short = rw d (omega (arith, row_most bs u, read_most z places tag q 0 s));
      }
