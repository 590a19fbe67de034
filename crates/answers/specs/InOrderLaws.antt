-- Laws of steps in order: one that is refused ends them, any other is counted; and steps that go alike end alike. Assumes nothing.
use Rattle.std.proofs.Math.Path.{◌≡◌, refl, ap}
use Rattle.std.proofs.Common.{sym}
use mathlib.Core.List.{List, [], ◌∷◌}
use Rattle.std.proofs.Math.Option.{Option, none, some}
use Prim.Native.Nat.{ℕ, suc, ◌<◌}
use native.Mathlib.Omega.{arith}
use Rattle.std.proofs.Math.ListN.{length}
use Rattle.answers.specs.declared.Refusal.{Refusal}
use Rattle.answers.specs.Tests.{unless}
use Rattle.answers.specs.InOrder.{Ended, stopped, one_more, in_order}

module _ {S A : Type 0} (verdict : S → A → Option Refusal) (next : S → A → S) (s : S) (a : A) (rest : List A) where
  pub order_ends : {r : Refusal} → verdict s a ≡ some r → in_order verdict next s (a ∷ rest) ≡ stopped s r
  unfolding in_order
  order_ends e = rw e

  pub order_goes : verdict s a ≡ none → in_order verdict next s (a ∷ rest) ≡ one_more (in_order verdict next (next s a) rest)
  unfolding in_order
  order_goes e = rw e

module _ {S A : Type 0} (verdict : S → A → Option Refusal) (next : S → A → S) where
  -- what every verdict is, and what every step keeps
  pub order_refusal : (P : Option Refusal → Type 0) → P none → ((s : S) (a : A) → P (verdict s a)) → (s : S) (xs : List A) → P (in_order verdict next s xs).refusal
  unfolding in_order
  order_refusal P p f s [] = p
  order_refusal P p f s (a ∷ xs) = go (verdict s a) (f s a) (order_refusal P p f (next s a) xs)
    where
      go : (v : Option Refusal) → P v → P (in_order verdict next (next s a) xs).refusal → P (unless v (stopped s) (one_more (in_order verdict next (next s a) xs))).refusal
      go none h k = k
      go (some r) h k = h

  pub order_keeps : (Q : S → Type 0) → ((s : S) (a : A) → Q s → Q (next s a)) → (s : S) (xs : List A) → Q s → Q (in_order verdict next s xs).left
  unfolding in_order
  order_keeps Q f s [] q = q
  order_keeps Q f s (a ∷ xs) q = go (verdict s a) (order_keeps Q f (next s a) xs (f s a q))
    where
      go : (v : Option Refusal) → Q (in_order verdict next (next s a) xs).left → Q (unless v (stopped s) (one_more (in_order verdict next (next s a) xs))).left
      go none k = k
      go (some r) k = q

  -- where none is done, nothing has changed
  pub order_none : (s : S) (xs : List A) → (in_order verdict next s xs).done ≡ 0 → (in_order verdict next s xs).left ≡ s
  unfolding in_order
  order_none s [] e = refl
  order_none s (a ∷ xs) e = go (verdict s a) e
    where
      go : (v : Option Refusal) → (unless v (stopped s) (one_more (in_order verdict next (next s a) xs))).done ≡ 0 → (unless v (stopped s) (one_more (in_order verdict next (next s a) xs))).left ≡ s
      go none h = absurd (omega (arith, h))
      go (some r) h = refl

  -- where none is refused, all are done
  pub order_all : (s : S) (xs : List A) → (in_order verdict next s xs).refusal ≡ none → (in_order verdict next s xs).done ≡ length xs
  unfolding in_order
  order_all s [] e = refl
  order_all s (a ∷ xs) e = go (verdict s a) e (order_all (next s a) xs)
    where
      go : (v : Option Refusal) → (unless v (stopped s) (one_more (in_order verdict next (next s a) xs))).refusal ≡ none
          → ((in_order verdict next (next s a) xs).refusal ≡ none → (in_order verdict next (next s a) xs).done ≡ length xs)
          → (unless v (stopped s) (one_more (in_order verdict next (next s a) xs))).done ≡ suc (length xs)
      go none h k = ap suc (k h)
      go (some r) h k = let z : ◌≡◌ {A = ℕ} 0 1 = cc in absurd (omega (arith, z))

  -- where one is refused, it and those behind it are not
  pub order_some : (s : S) (xs : List A) {r : Refusal} → (in_order verdict next s xs).refusal ≡ some r → (in_order verdict next s xs).done < length xs
  unfolding in_order
  order_some s [] e = let z : ◌≡◌ {A = ℕ} 0 1 = cc in absurd (omega (arith, z))
  order_some s (a ∷ xs) {r} e = go (verdict s a) e (order_some (next s a) xs)
    where
      go : (v : Option Refusal) → (unless v (stopped s) (one_more (in_order verdict next (next s a) xs))).refusal ≡ some r
          → ((in_order verdict next (next s a) xs).refusal ≡ some r → (in_order verdict next (next s a) xs).done < length xs)
          → (unless v (stopped s) (one_more (in_order verdict next (next s a) xs))).done < suc (length xs)
      go none h k = omega (arith, k h)
      go (some x) h k = omega arith

-- two ends with the same count and the same refusal
pub record Alike {S T : Type 0} (R : S → T → Type 0) (x : Ended S) (y : Ended T) : Type 0 where
  pub done : x.done ≡ y.done
  pub refusal : x.refusal ≡ y.refusal
  pub left : R x.left y.left

module _ {S T A : Type 0} (verdict : S → A → Option Refusal) (next : S → A → S) (verdict' : T → A → Option Refusal) (next' : T → A → T) (R : S → T → Type 0)
    (same : (s : S) (t : T) (a : A) → R s t → verdict s a ≡ verdict' t a) (goes : (s : S) (t : T) (a : A) → R s t → verdict s a ≡ none → R (next s a) (next' t a)) where
  pub order_alike : (s : S) (t : T) (xs : List A) → R s t → Alike R (in_order verdict next s xs) (in_order verdict' next' t xs)
  unfolding in_order
  order_alike s t [] r = record { done = refl; refusal = refl; left = r }
  order_alike s t (a ∷ xs) r = rw (sym (same s t a r)) (go (verdict s a) refl (λ k. order_alike (next s a) (next' t a) xs k))
    where
      go : (v : Option Refusal) → verdict s a ≡ v → (R (next s a) (next' t a) → Alike R (in_order verdict next (next s a) xs) (in_order verdict' next' (next' t a) xs))
          → Alike R (unless v (stopped s) (one_more (in_order verdict next (next s a) xs))) (unless v (stopped t) (one_more (in_order verdict' next' (next' t a) xs)))
      go none e f = let k = f (goes s t a r e) in record { done = ap suc k.done; refusal = k.refusal; left = k.left }
      go (some x) e f = record { done = refl; refusal = refl; left = r }
