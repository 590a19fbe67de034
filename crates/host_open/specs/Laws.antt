-- An opening on bytes: the records of the opened store are stored. Assumes nothing.
use Rattle.std.specs.Prelude.{◌≡◌, ◌≢◌, Bool, not, ℕ, zero, suc, ◌+◌, ◌-◌, ◌*◌, eqb, length, take, drop, replicate}
use Rattle.std.proofs.Math.Path.{refl}
use Rattle.std.proofs.Common.{sym, ◌∙◌, ap, ap₂, arith, eq-eqb, ne_eqb, length-drop, length-take-le}
use Rattle.std.proofs.Math.Bool.{true, false}
use mathlib.Core.List.{List, [], ◌∷◌, ◌++◌}
use Rattle.std.proofs.lemmas.List.{length-replicate, replicate-append-replicate}
use Rattle.basics.specs.Decide.{not_yes, not_no}
use Rattle.measures.specs.declared.Size.{Size}
use Rattle.measures.specs.Measures.{Within}
use Rattle.answers.specs.declared.Refusal.TheVariants.{BadSize, BadLength}
use Rattle.answers.specs.Tests.{Tests, refusal, in_measure}
use Rattle.answers.proofs.Laws.{refusal_here, refusal_next, refusal_none, in_measure_lem, measure_in}
use Rattle.soundness.specs.Judged.{leaves_refused, leaves_done}
use Rattle.laying.specs.Laid.{Lays, twos, pairs}
use Rattle.laying.specs.Laws.{lays_then, lays_as, lays_part}
use Rattle.layout.specs.Layout.{entries, records_size, tree_bytes, table_bytes, stored}
use Rattle.layout.specs.Laws.{laid_all, head_ends}
use Rattle.host_open.specs.Opens.{HostOpens, first_records, open_tests}

module _ (z : Size) (b places : List ℕ) where
  lengths : Tests
  lengths = (not (eqb (length places) (z.places * z.width)), BadLength) ∷ (not (eqb (length b) (records_size z)), BadLength) ∷ []

  measured : Within z → refusal (open_tests z (length b) (length places)) ≡ refusal lengths
  unfolding open_tests lengths
  measured w = refusal_next BadSize _ (not_no (in_measure_lem z w))

  pub open_size : (Within z → ⊥) → HostOpens z b places 1 (b, places)
  unfolding open_tests
  open_size f = leaves_refused BadSize (refusal_here BadSize _ (not_yes (no_measure (in_measure z) (λ e. f (measure_in z e)))))
    where
      no_measure : (x : Bool) → (x ≡ true → ⊥) → x ≡ false
      no_measure true g = absurd (g refl)
      no_measure false g = refl

  pub open_places : Within z → length places ≢ z.places * z.width → HostOpens z b places 2 (b, places)
  unfolding lengths
  open_places w f = leaves_refused BadLength (measured w ∙ refusal_here BadLength _ (not_yes (ne_eqb _ _ f)))

  pub open_records : Within z → length places ≡ z.places * z.width → length b ≢ records_size z → HostOpens z b places 2 (b, places)
  unfolding lengths
  open_records w e f = leaves_refused BadLength (measured w ∙ refusal_next BadLength _ (not_no (eq-eqb _ _ e)) ∙ refusal_here BadLength [] (not_yes (ne_eqb _ _ f)))

  pub open_done : Within z → length places ≡ z.places * z.width → length b ≡ records_size z → {b' places' : List ℕ} → b' ≡ stored (first_records z) → places' ≡ replicate (length places) 0 → HostOpens z b places 0 (b', places')
  unfolding lengths
  open_done w e l s p = leaves_done
      (measured w ∙ refusal_next BadLength _ (not_no (eq-eqb _ _ e)) ∙ refusal_next BadLength [] (not_no (eq-eqb _ _ l)) ∙ refusal_none)
      (ap₂ (λ (c d : List ℕ). (c, d)) s p)

-- The first records, as they are laid

pairs_zeros : (n : ℕ) → pairs (replicate n 0) ≡ replicate (2 * n) 0
unfolding pairs twos
pairs_zeros zero = refl
pairs_zeros (suc n) = let e : 2 * suc n ≡ suc (suc (2 * n)) = omega arith in rw e (ap (λ (r : List ℕ). 0 ∷ 0 ∷ r) (pairs_zeros n))

zeros : (n m : ℕ) → replicate n 0 ++ replicate m 0 ≡ replicate {A = ℕ} (n + m) 0
zeros n m = replicate-append-replicate n m 0

tail : (a b c n : ℕ) → (replicate a 0 ++ (replicate b 0 ++ pairs (replicate c 0))) ++ (replicate n 0 ++ pairs (replicate n 0)) ≡ replicate ((a + (b + 2 * c)) + (n + 2 * n)) 0
tail a b c n = rw (pairs_zeros c, pairs_zeros n, zeros b (2 * c), zeros a (b + 2 * c), zeros n (2 * n)) (zeros (a + (b + 2 * c)) (n + 2 * n))

-- behind node 0's state all is zero
first_tail : (z : Size) → stored (first_records z) ≡ pairs (z.rows ∷ z.width ∷ z.places ∷ []) ++ ((1 ∷ []) ++ replicate (511 + 3 * entries z) 0)
unfolding stored tree_bytes table_bytes
first_tail z =
    let n = entries z in
    let e : (127 + (128 + 2 * 128)) + (n + 2 * n) ≡ 511 + 3 * n = omega arith in
    ap (λ (r : List ℕ). pairs (z.rows ∷ z.width ∷ z.places ∷ []) ++ (1 ∷ r)) (tail 127 128 128 n ∙ ap (λ (k : ℕ). replicate k 0) e)

-- the measures are laid, then node 0's state, then zeros to the end
module _ (z : Size) {xs b a c : List ℕ} {to₁ to₂ : ℕ} (e : xs ≡ (z.rows ∷ z.width ∷ z.places ∷ [])) (l : length b ≡ records_size z) (x : Lays b 0 (pairs xs) a to₁) (y : Lays a to₁ (1 ∷ []) c to₂) where
  left : length c - to₂ ≡ 511 + 3 * entries z
  left = omega (arith, y.size, x.size, y.ends, (head_ends z e x).0, l)

  pub first_laid : {zs : List ℕ} → zs ≡ replicate (length (take (length c - to₂) (drop to₂ c))) 0 → take to₂ c ++ (zs ++ drop (length c - to₂) (drop to₂ c)) ≡ stored (first_records z)
  first_laid {zs} f =
      let k : length (take (length c - to₂) (drop to₂ c)) ≡ length c - to₂ = length-take-le (length c - to₂) (drop to₂ c) (omega (arith, length-drop to₂ c)) in
      let none : List ℕ = replicate (length c - to₂) 0 in
      let r : length none ≡ length c - to₂ = length-replicate {A = ℕ} (length c - to₂) 0 in
      let q : (to₂ + length none) - to₂ ≡ length c - to₂ = omega (arith, r) in
      let w = lays_part c to₂ none zs (omega (arith, r, y.inside)) (f ∙ ap (λ (m : ℕ). replicate m 0) k) in
      let all = lays_then (lays_as (ap pairs e) x) (lays_then y w) in
      ap (λ (n : ℕ). take to₂ c ++ (zs ++ drop n (drop to₂ c))) (sym q)
      ∙ all.whole
      ∙ laid_all b _ (omega (arith, all.ends, r, y.inside, y.size, x.size))
      ∙ rw left (sym (first_tail z))
