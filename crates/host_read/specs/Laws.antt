-- A row that is read goes into the bytes lent for it, and how many share it into the number. Assumes nothing.
use Rattle.std.specs.Prelude.{◌≡◌, ◌≢◌, Bool, cond, List, [], ◌∷◌, ℕ, ◌*◌, eqb, length}
use Rattle.std.proofs.Math.Path.{refl, sym}
use Rattle.std.proofs.Common.{◌∙◌, eq-eqb, ne_eqb}
use Rattle.std.proofs.Math.Bool.{true, false, not}
use Rattle.std.proofs.Math.Option.{Option}
use Rattle.std.proofs.Math.Dec.{leb}
use Rattle.basics.specs.Decide.{at, not_yes, not_no}
use Rattle.measures.specs.declared.Size.{Size}
use Rattle.trees.specs.declared.Tree.{Tree}
use Rattle.records.specs.Records.{Records, records_of, lives}
use Rattle.answers.specs.declared.Refusal.{Refusal}
use Rattle.answers.specs.declared.Refusal.TheVariants.{BadLength, BadRow, UnknownTag}
use Rattle.answers.specs.Answers.{handed, refused_of, row}
use Rattle.answers.specs.Tests.{refusal, unless, verdict_number}
use Rattle.soundness.specs.Judged.{Leaves}
use Rattle.reads.specs.Reads.{ReadEnds, read_answer, row_of_tag, sharers_of_tag}
use Rattle.reads.specs.Reads as queries
use Rattle.reads.proofs.Sizes.{same_number, same_bytes, same_sharers}
use Rattle.layout.specs.Layout.{size_at, nodes_at, loaded, Fits}
use Rattle.layout.specs.Update.{loaded_size}
use Rattle.host_read.specs.Reads.{HostReads, read_tests, copy_number, Copied}
use Rattle.host.specs.Laws.{host_judged, as_loaded}

-- the tests of a read, by what each of them says: places, row, tag; and with the length of the bytes lent for the row
reads : Bool → Bool → Bool → Option Refusal
reads p r t = refusal ((p, BadLength) ∷ (r, BadRow) ∷ (t, UnknownTag) ∷ [])

copies : Bool → Bool → Bool → Bool → Option Refusal
copies p o r t = refusal ((p, BadLength) ∷ (o, BadLength) ∷ (r, BadRow) ∷ (t, UnknownTag) ∷ [])

-- a read that was made, and a copy of its row
module _ (bytes out : List ℕ) (seen : ℕ) where
  number_read : Bool → Bool → Bool → ℕ
  number_read p r t = (unless (reads p r t) (refused_of 1) (row bytes seen)).number

  bytes_read : Bool → Bool → Bool → List ℕ
  bytes_read p r t = (unless (reads p r t) (refused_of 1) (row bytes seen)).bytes

  sharers_read : Bool → Bool → Bool → ℕ
  sharers_read p r t = at (unless (reads p r t) (refused_of 1) (row bytes seen)).numbers 0

  numbers_agree : (p o r t : Bool) → cond (eqb (number_read p r t) 20) 20 (cond o 2 (number_read p r t)) ≡ verdict_number (copies p o r t)
  unfolding number_read reads copies refusal
  numbers_agree true true r t = refl
  numbers_agree true false r t = refl
  numbers_agree false true true t = refl
  numbers_agree false true false true = refl
  numbers_agree false true false false = refl
  numbers_agree false false true t = refl
  numbers_agree false false false true = refl
  numbers_agree false false false false = refl

  rows_agree : (p o r t : Bool)
      → ◌≡◌ {A = List ℕ × ℕ} (cond (eqb (verdict_number (copies p o r t)) 0) (bytes_read p r t) out, cond (eqb (verdict_number (copies p o r t)) 0) (sharers_read p r t) 0) (unless (copies p o r t) (λ x. (out, 0)) (bytes, seen))
  unfolding bytes_read sharers_read reads copies refusal
  rows_agree true o r t = refl
  rows_agree false true r t = refl
  rows_agree false false true t = refl
  rows_agree false false false true = refl
  rows_agree false false false false = refl

-- a copy, by its tests
module _ {width n seen : ℕ} {bytes out : List ℕ} where
  pub copied_unsound : n ≡ 20 → Copied width n bytes seen out 20 out 0
  unfolding copy_number
  copied_unsound e = record { numbered = rw (eq-eqb n 20 e); filled = refl; told = refl }

  pub copied_length : n ≢ 20 → length out ≢ width → Copied width n bytes seen out 2 out 0
  unfolding copy_number
  copied_length e f = record { numbered = rw (ne_eqb n 20 e, not_yes (ne_eqb (length out) width f)); filled = refl; told = refl }

  pub copied_refused : n ≢ 20 → length out ≡ width → n ≢ 0 → Copied width n bytes seen out n out 0
  unfolding copy_number
  copied_refused e f g = record { numbered = rw (ne_eqb n 20 e, not_no (eq-eqb (length out) width f)); filled = rw (ne_eqb n 0 g); told = rw (ne_eqb n 0 g) }

  pub copied_done : {out' : List ℕ} → n ≢ 20 → length out ≡ width → n ≡ 0 → out' ≡ bytes → Copied width n bytes seen out 0 out' seen
  unfolding copy_number
  copied_done e f g h = record { numbered = rw (ne_eqb n 20 e, not_no (eq-eqb (length out) width f)) (sym g); filled = h; told = refl }

-- the same of a store
module _ (z : Records) (places : List ℕ) (tag r : ℕ) where
  -- the row is copied as the tests with the length of its bytes say
  pub read_copied : {n seen answer sharers : ℕ} {bytes out out' : List ℕ} → handed n bytes (seen ∷ []) ≡ read_answer z places tag r → Copied z.size.width n bytes seen out answer out' sharers
      → Leaves {A = List ℕ × ℕ} (refusal (read_tests z (length places) (length out) tag r)) (out, 0) (row_of_tag z places tag r, sharers_of_tag z tag r) answer (out', sharers)
  unfolding read_answer queries.read_tests read_tests copy_number number_read bytes_read sharers_read reads copies
  read_copied {answer = answer} {out = out} h c =
      let p = not (eqb (length places) (z.size.places * z.size.width)) in
      let o = not (eqb (length out) z.size.width) in
      let l = leb z.size.rows r in
      let t = not (lives z tag) in
      let row' = row_of_tag z places tag r in
      let many = sharers_of_tag z tag r in
      let e : answer ≡ verdict_number (copies p o l t) = c.numbered ∙ rw (same_number h) (numbers_agree row' out many p o l t) in
      record { numbered = e; left = (λ i. (c.filled i, c.told i)) ∙ rw (e, same_bytes h, same_sharers h) (rows_agree row' out many p o l t) }

-- On bytes
module _ {b : List ℕ} {size : Size} {t : Tree} {node row : List ℕ} (f : Fits b) (e : size ≡ size_at b) (l : records_of (size_at b) t (nodes_at b) row ≡ loaded b) where
  pub read_host : (places : List ℕ) (tag r : ℕ) {n seen answer sharers : ℕ} {bytes out out' : List ℕ} → ReadEnds (records_of size t node row) places tag r n bytes seen → node ≡ nodes_at b
      → Copied size.width n bytes seen out answer out' sharers → HostReads b places tag r out answer (out', sharers)
  unfolding copy_number
  read_host places tag r {n} {seen} {answer} {sharers} {bytes} {out} {out'} h p c =
      let k : ReadEnds (loaded b) places tag r n bytes seen = rw (sym (as_loaded b e p l)) h in
      let d : Copied (loaded b).size.width n bytes seen out answer out' sharers = rw (loaded_size b ∙ sym e) c in
      host_judged f (record {
        sound = λ s. read_copied (loaded b) places tag r (k.sound s) d;
        unsound = λ g.
            let u = same_number (k.unsound g) in
            let a : answer ≡ 20 = c.numbered ∙ rw u in
            (a, (λ i. (c.filled i, c.told i)) ∙ rw a);
      })
