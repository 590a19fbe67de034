-- How many different values a function has on a list: as a count below a bound, and what it depends on. Assumes nothing.
use Rattle.std.specs.Prelude.{◌≡◌, ◌≢◌, ◌↔◌, Bool, ◌||◌}
use Rattle.std.proofs.Math.Path.{refl, sym, ap}
use Rattle.std.proofs.Common.{◌∙◌, ap₂, inl, inr, arith, eq-eqb, ne_eqb, eqb-true}
use Rattle.std.proofs.Math.Logic.{by_cases}
use Rattle.std.proofs.Math.Bool.{true, false, cond}
use mathlib.Core.List.{List, [], ◌∷◌}
use Prim.Native.Nat.{ℕ, suc, ◌+◌, ◌<◌}
use Rattle.std.proofs.Math.Decide.{ℕ_discrete}
use Rattle.std.proofs.Math.Dec.{eqb}
use Rattle.basics.specs.Count.{one, count}
use Rattle.basics.proofs.CountLaws.{sum_cong, sum_add, sum_zero, one_yes, one_no, count_two, count_has, count_pair, count_cong, count_eqb}
use Rattle.basics.specs.Decide.{Decides, decides_true, holds}
use Rattle.copies.specs.Copies.{any, different}
use Rattle.copies.specs.Members.{In, test_iff, eqb_iff, any_yes, any_some, any_same, any_members}

-- a passes where b does, and at k besides
pub count_new : (a b : ℕ → Bool) (k n : ℕ) → k < n → a k ≡ true → b k ≡ false
    → ((v : ℕ) → v < n → v ≢ k → a v ≡ b v) → count a n ≡ suc (count b n)
unfolding count
count_new a b k n l p q h = omega (
  arith,
  sum_cong (λ v. one (a v)) (λ v. one (b v) + one (eqb k v)) n term,
  sum_add (λ v. one (b v)) (λ v. one (eqb k v)) n,
  count_eqb k n l,
)
  where
    term : (v : ℕ) → v < n → one (a v) ≡ one (b v) + one (eqb k v)
    term v m = by_cases (ℕ_discrete v k)
        (λ e. omega (arith, one_yes (ap a e ∙ p), one_no (ap b e ∙ q), one_yes (eq-eqb k v (sym e))))
        (λ e. omega (arith, ap one (h v m e), one_no (ne_eqb k v (λ x. e (sym x)))))

module _ {A : Type 0} (f : A → ℕ) where
  -- v is a value of f on the list
  abbrev among : List A → ℕ → Bool
  among xs v = any (λ y. eqb v (f y)) xs

  among_below : (p : ℕ) (xs : List A) → ((x : A) → In x xs → f x < p) → different f xs ≡ count (among xs) p
  unfolding different any count
  among_below p [] h = sym (sum_zero _ p (λ v l. one_no refl))
  among_below p (x ∷ xs) h = go (among xs (f x)) refl (among_below p xs (λ y i. h y (inr i)))
    where
      go : (b : Bool) → among xs (f x) ≡ b → different f xs ≡ count (among xs) p → cond b (different f xs) (suc (different f xs)) ≡ count (λ v. eqb v (f x) || among xs v) p
      go true e r = r ∙ count_cong (among xs) (λ v. eqb v (f x) || among xs v) p (λ v l. by_cases (ℕ_discrete v (f x))
          (λ k. rw (eq-eqb v (f x) k) (rw k e))
          (λ k. rw (ne_eqb v (f x) k)))
      go false e r = ap suc r ∙ sym (count_new (λ v. eqb v (f x) || among xs v) (among xs) (f x) p (h x (inl refl))
          (rw (eq-eqb (f x) (f x) refl)) e (λ v l k. rw (ne_eqb v (f x) k)))

  -- as many as numbers below p pass a test for being a value
  pub different_among : (p : ℕ) (xs : List A) → ((x : A) → In x xs → f x < p)
      → (b : ℕ → Bool) → ((v : ℕ) → v < p → Decides (b v) ((x : A) × In x xs × (f x ≡ v))) → different f xs ≡ count b p
  different_among p xs low b d = among_below p xs low ∙ count_cong (among xs) b p (λ v l. test_iff (
    (λ e. let (x, i, k) = any_some (λ y. eqb v (f y)) xs e in decides_true (d v l) (x, i, sym (eqb-true v (f x) k))),
    (λ e. let (x, i, k) = holds (b v) (d v l) e in any_yes (λ y. eqb v (f y)) xs x i (eq-eqb v (f x) (sym k))),
  ))

  -- above every value
  roof : List A → ℕ
  roof [] = 0
  roof (x ∷ xs) = suc (f x) + roof xs

  under_roof : (xs : List A) (x : A) → In x xs → f x < roof xs
  unfolding roof
  under_roof [] x i = absurd i
  under_roof (y ∷ ys) x (inl e) = omega (arith, ap f e)
  under_roof (y ∷ ys) x (inr i) = omega (arith, under_roof ys x i)

  -- a member is one; two members with different values are two, and where there are two, there are such members
  pub different_some : (xs : List A) (x : A) → In x xs → 0 < different f xs
  different_some xs x i = omega (arith, among_below (roof xs) xs (under_roof xs), count_has (among xs) (roof xs) (f x) (under_roof xs x i) (any_yes (λ y. eqb (f x) (f y)) xs x i (eq-eqb (f x) (f x) refl)))

  pub different_two : (xs : List A) (x y : A) → In x xs → In y xs → f x ≢ f y → 1 < different f xs
  different_two xs x y i j d = omega (
    arith,
    among_below (roof xs) xs (under_roof xs),
    count_two (among xs) (roof xs) (f x) (f y) (under_roof xs x i) (under_roof xs y j) d (any_yes (λ w. eqb (f x) (f w)) xs x i (eq-eqb (f x) (f x) refl)) (any_yes (λ w. eqb (f y) (f w)) xs y j (eq-eqb (f y) (f y) refl)),
  )

  pub two_different : (xs : List A) → 1 < different f xs → (x : A) × (y : A) × In x xs × In y xs × (f x ≢ f y)
  two_different xs l =
      let (v, w, k, m, d, p, q) = count_pair (among xs) (roof xs) (omega (arith, among_below (roof xs) xs (under_roof xs))) in
      let (x, i, e) = any_some (λ y. eqb v (f y)) xs p in
      let (y, j, h) = any_some (λ y. eqb w (f y)) xs q in
      (x, y, i, j, λ s. d (eqb-true v (f x) e ∙ s ∙ sym (eqb-true w (f y) h)))

  -- neither order nor repetition counts
  pub different_members : (xs ys : List A) → ((x : A) → In x xs ↔ In x ys) → different f xs ≡ different f ys
  different_members xs ys h =
      let p : ℕ = roof xs + roof ys in
      among_below p xs (λ x i. omega (arith, under_roof xs x i))
      ∙ count_cong (among xs) (among ys) p (λ v l. any_members (λ y. eqb v (f y)) xs ys h)
      ∙ sym (among_below p ys (λ x i. omega (arith, under_roof ys x i)))

-- only which values are equal counts
pub different_pattern : {A : Type 0} (f g : A → ℕ) (xs : List A) → ((x y : A) → In x xs → In y xs → f x ≡ f y ↔ g x ≡ g y) → different f xs ≡ different g xs
unfolding different
different_pattern f g [] h = refl
different_pattern f g (x ∷ xs) h = ap₂ (λ (b : Bool) (n : ℕ). cond b n (suc n))
    (any_same _ _ xs (λ y i. eqb_iff (h x y (inl refl) (inr i))))
    (different_pattern f g xs (λ y w i j. h y w (inr i) (inr j)))
