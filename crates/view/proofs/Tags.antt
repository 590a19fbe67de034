-- The tags of the snapshots at nodes below a number: which are among them, and how many that pass a test are different. Assumes nothing.
use Rattle.std.specs.Prelude.{◌≡◌, ◌≢◌, cond, ◌&&◌, List, ◌∷◌, eqb}
use Rattle.std.proofs.Math.Path.{refl}
use Rattle.std.proofs.Common.{sym, ◌∙◌, ap, inl, eqb-true}
use Rattle.std.proofs.Math.Logic.{inr, by_cases}
use Rattle.std.proofs.Math.Bool.{Bool, true, false, and-false}
use Prim.Native.Nat.{ℕ, zero, suc, ◌≤◌, ◌<◌}
use Rattle.std.proofs.Math.Decide.{ℕ_discrete}
use native.Mathlib.Omega.{arith}
use Rattle.basics.specs.Decide.{at, and_yes}
use Rattle.basics.specs.Count.{sum, count}
use Rattle.basics.proofs.CountLaws.{one_yes, one_no}
use Rattle.trees.specs.declared.Tree.{Tree}
use Rattle.trees.specs.Trees.{is_snapshot}
use Rattle.trees.specs.Rules.{Tagged}
use Rattle.tree.specs.Nodes.{snapshot_of}
use Rattle.copies.specs.Copies.{any, only, different}
use Rattle.copies.specs.Members.{In, any_some, only_in}
use Rattle.view.specs.View.{tags_below}

-- a value that f has nowhere else on the list is one more
pub different_new : {A : Type 0} (f : A → ℕ) (x : A) (xs : List A) → ((y : A) → In y xs → f x ≢ f y) → different f (x ∷ xs) ≡ suc (different f xs)
unfolding different
different_new f x xs h = go (any (λ y. eqb (f x) (f y)) xs) refl
  where
    go : (b : Bool) → any (λ y. eqb (f x) (f y)) xs ≡ b → cond b (different f xs) (suc (different f xs)) ≡ suc (different f xs)
    go true e = let (y, i, k) = any_some (λ y. eqb (f x) (f y)) xs e in absurd (h y i (eqb-true (f x) (f y) k))
    go false e = refl

module _ (t : Tree) where
  -- a snapshot at a node below n has tag u
  abbrev pub TagBelow : ℕ → ℕ → Type 0
  TagBelow n u = (k : ℕ) × (k < n) × (is_snapshot t k ≡ true) × (at t.tag k ≡ u)

  pub tags_of : (n u : ℕ) → In u (tags_below t n) → TagBelow n u
  unfolding tags_below
  tags_of zero u i = absurd i
  tags_of (suc n) u i = go (is_snapshot t n) refl i (tags_of n u)
    where
      wider : TagBelow n u → TagBelow (suc n) u
      wider (k, l, x, e) = (k, omega arith, x, e)

      go : (b : Bool) → is_snapshot t n ≡ b → In u (cond b (at t.tag n ∷ tags_below t n) (tags_below t n)) → (In u (tags_below t n) → TagBelow n u) → TagBelow (suc n) u
      go true x (inl e) f = (n, omega arith, x, sym e)
      go true x (inr j) f = wider (f j)
      go false x j f = wider (f j)

  pub tags_in : (n k : ℕ) → k < n → is_snapshot t k ≡ true → In (at t.tag k) (tags_below t n)
  unfolding tags_below
  tags_in zero k l x = absurd (omega arith)
  tags_in (suc n) k l x = by_cases (ℕ_discrete k n)
      (λ e. rw (← e) (rw x (inl refl)))
      (λ e. past (is_snapshot t n) (tags_in n k (omega arith) x))
    where
      past : (b : Bool) → In (at t.tag k) (tags_below t n) → In (at t.tag k) (cond b (at t.tag n ∷ tags_below t n) (tags_below t n))
      past true i = inr i
      past false i = i

  -- where living snapshots have different tags: as many pass a test as there are snapshots whose tags do
  pub tags_passing : Tagged t → (p : ℕ → Bool) (n : ℕ) → n ≤ 128 → different (λ u. u) (only p (tags_below t n)) ≡ count (λ k. is_snapshot t k && p (at t.tag k)) n
  unfolding tags_below only different count sum
  tags_passing g p zero l = refl
  tags_passing g p (suc n) l = go (is_snapshot t n) refl (tags_passing g p n (omega arith))
    where
      passes : ℕ → Bool
      passes k = is_snapshot t k && p (at t.tag k)

      passing : List ℕ
      passing = only p (tags_below t n)

      fresh : is_snapshot t n ≡ true → (u : ℕ) → In u passing → at t.tag n ≢ u
      fresh x u i e =
          let (k, m, y, h) = tags_of n u ((only_in p (tags_below t n) u).0 i).0 in
          let d : n ≡ k = g.different n k (snapshot_of t n (omega arith) x) (snapshot_of t k (omega arith) y) (e ∙ sym h) in
          omega arith

      snapshot : (b : Bool) → is_snapshot t n ≡ true → p (at t.tag n) ≡ b → different (λ u. u) passing ≡ count passes n → different (λ u. u) (cond b (at t.tag n ∷ passing) passing) ≡ count passes (suc n)
      snapshot true x y r = omega (arith, different_new (λ u. u) (at t.tag n) passing (fresh x), one_yes (and_yes x y))
      snapshot false x y r = omega (arith, one_no (ap (◌&&◌ (is_snapshot t n)) y ∙ and-false (is_snapshot t n)))

      go : (b : Bool) → is_snapshot t n ≡ b → different (λ u. u) passing ≡ count passes n → different (λ u. u) (only p (cond b (at t.tag n ∷ tags_below t n) (tags_below t n))) ≡ count passes (suc n)
      go true x r = snapshot (p (at t.tag n)) x refl r
      go false x r = omega (arith, one_no (ap (λ (b : Bool). b && p (at t.tag n)) x))

  -- none is the origin's
  pub tags_above : Tagged t → (u : ℕ) → In u (tags_below t 128) → 0 ≢ u
  tags_above g u i e = let (k, l, x, h) = tags_of 128 u i in omega (arith, g.above k (snapshot_of t k l x))
