-- A row that a read hands out has B bytes, and so one at least. Assumes nothing.
use Rattle.std.proofs.Math.Path.{◌≡◌, refl}
use Rattle.std.proofs.Common.{sym, ◌∙◌, ap, arith, eqb-true, leb-false}
use Rattle.std.specs.Prelude.{◌≢◌, Bool, List, [], ℕ, ◌*◌, ◌<◌, eqb, leb, length}
use Rattle.std.proofs.Math.Logic.{by_cases}
use Rattle.std.proofs.Math.Bool.{true, false, not}
use Rattle.std.proofs.Math.Option.{Option, none, some}
use Rattle.std.proofs.Math.Decide.{ℕ_discrete}
use Rattle.basics.specs.Decide.{at}
use Rattle.measures.specs.Measures.{bytes_at}
use Rattle.records.specs.Records.{Records, lives, tag_place, is_found, place_by}
use Rattle.trees.specs.Trees.{version}
use Rattle.records.specs.Sound.{Sound}
use Rattle.answers.specs.declared.Refusal.{Refusal}
use Rattle.answers.specs.declared.Refusal.TheVariants.{BadLength, BadRow, UnknownTag, Unsound}
use Rattle.answers.specs.Answers.{Answer, refused_of, row}
use Rattle.answers.specs.Tests.{refusal, unless}
use Rattle.answers.proofs.Laws.{refusal_passed, number_some}
use Rattle.placing.specs.Laws.{bytes_size}
use Rattle.reads.specs.Reads.{ReadEnds, read_tests, read_answer, row_of_tag, sharers_of_tag}
use Rattle.reads.proofs.Laws.{version_used, read_inside}

-- an answer's number, its bytes, and the number that it gives beside
pub same_number : {a b : Answer} → a ≡ b → a.number ≡ b.number
same_number e = ap (λ (x : Answer). x.number) e

pub same_bytes : {a b : Answer} → a ≡ b → a.bytes ≡ b.bytes
same_bytes e = ap (λ (x : Answer). x.bytes) e

pub same_sharers : {a b : Answer} → a ≡ b → at a.numbers 0 ≡ at b.numbers 0
same_sharers e = ap (λ (x : Answer). at x.numbers 0) e

module _ (z : Records) (places : List ℕ) (tag r : ℕ) where
  verdict : Option Refusal
  verdict = refusal (read_tests z (length places) tag r)

  -- an accepted read's row has B bytes
  row_size : Sound z → verdict ≡ none → length (row_of_tag z places tag r) ≡ z.size.width
  unfolding verdict read_tests row_of_tag lives tag_place
  row_size s v =
      let (p, v₁) = refusal_passed (not (eqb (length places) (z.size.places * z.size.width))) BadLength _ v in
      let (l, v₂) = refusal_passed (leb z.size.rows r) BadRow _ v₁ in
      let (t, v₃) = refusal_passed (not (is_found (version z.tree tag))) UnknownTag _ v₂ in
      go (version z.tree tag) refl (eqb-true _ _ (unnot (eqb (length places) (z.size.places * z.size.width)) p)) (leb-false _ _ l) t
    where
      unnot : (b : Bool) → not b ≡ false → b ≡ true
      unnot true e = refl
      unnot false e = absurd (let x : ◌≡◌ {A = ℕ} 0 1 = cc in omega (arith, x))

      go : (o : Option ℕ) → version z.tree tag ≡ o → length places ≡ z.size.places * z.size.width → r < z.size.rows → not (is_found o) ≡ false
          → length (bytes_at z.size.width places (place_by z o r)) ≡ z.size.width
      go none w e l t = absurd (let x : ◌≡◌ {A = ℕ} 0 1 = cc in omega (arith, x))
      go (some n) w e l t = bytes_size z.size.width places _ (read_inside z s places e n r (version_used z.tree tag n w) l).within

  -- a number 0 says that it was accepted
  accepted : (v : Option Refusal) (bs : List ℕ) (n : ℕ) → (unless v (refused_of 1) (row bs n)).number ≡ 0 → v ≡ none
  accepted none bs n e = refl
  accepted (some x) bs n e = absurd (number_some x e)

  pub read_size : {n sharers : ℕ} {bytes : List ℕ} → ReadEnds z places tag r n bytes sharers → n ≡ 0 → length bytes ≡ z.size.width
  unfolding read_answer verdict
  read_size {bytes = bytes} e zero_number = by_cases (ℕ_discrete (length bytes) z.size.width)
      (λ g. g)
      (λ g.
      let bad : Sound z → ⊥ = λ s.
      let h = e.sound s in
      let v = accepted verdict (row_of_tag z places tag r) (sharers_of_tag z tag r) (sym (same_number h) ∙ zero_number) in
      g (rw (same_bytes h, v) (row_size s v)) in
      absurd (number_some Unsound (sym (same_number (e.unsound bad)) ∙ zero_number)))

  pub read_some : {n sharers : ℕ} {bytes : List ℕ} → ReadEnds z places tag r n bytes sharers → n ≡ 0 → bytes ≢ []
  read_some e zero_number none_read =
      let bad : Sound z → ⊥ = λ s. omega (arith, s.measured.within.width.0, read_size e zero_number, ap length none_read) in
      number_some Unsound (sym (same_number (e.unsound bad)) ∙ zero_number)
