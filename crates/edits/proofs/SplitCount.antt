-- A count stays the same where one number stops passing and another begins to. Assumes nothing.
use Rattle.std.specs.Prelude.{◌≡◌, refl, ◌≢◌, Bool, true, false, ℕ, ◌+◌, ◌<◌, eqb}
use Rattle.std.proofs.Common.{sym, ap, arith, eq-eqb, ne_eqb}
use Rattle.std.proofs.Math.Logic.{by_cases}
use Rattle.std.proofs.Math.Decide.{ℕ_discrete}
use Rattle.basics.specs.Count.{one, count}
use Rattle.basics.proofs.CountLaws.{sum_cong, sum_add, count_eqb, one_yes, one_no}

-- a passes p and not q, b passes q and not p, and all others pass both or neither
pub count_swap : (p q : ℕ → Bool) (n a b : ℕ) → a < n → b < n → a ≢ b → p a ≡ true → p b ≡ false → q a ≡ false → q b ≡ true → ((k : ℕ) → k < n → k ≢ a → k ≢ b → p k ≡ q k) → count p n ≡ count q n
unfolding count
count_swap p q n a b l m d pa pb qa qb h = omega (
  arith,
  sum_add (λ k. one (p k)) (λ k. one (eqb b k)) n,
  sum_add (λ k. one (q k)) (λ k. one (eqb a k)) n,
  sum_cong (λ k. one (p k) + one (eqb b k)) (λ k. one (q k) + one (eqb a k)) n each,
  count_eqb a n l,
  count_eqb b n m,
)
  where
    each : (k : ℕ) → k < n → one (p k) + one (eqb b k) ≡ one (q k) + one (eqb a k)
    each k r = by_cases (ℕ_discrete k a)
        (λ x. rw x (omega (arith, one_yes pa, one_no qa, one_yes (eq-eqb a a refl), one_no (ne_eqb b a (λ e. d (sym e))))))
        (λ x. by_cases (ℕ_discrete k b)
        (λ y. rw y (omega (arith, one_no pb, one_yes qb, one_yes (eq-eqb b b refl), one_no (ne_eqb a b d))))
        (λ y. omega (arith, ap one (h k r x y), one_no (ne_eqb a k (λ e. x (sym e))), one_no (ne_eqb b k (λ e. y (sym e))))))
