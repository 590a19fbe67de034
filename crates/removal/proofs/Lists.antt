-- The lists that a delete leaves are those of Freed and Relabelled, and only they are. Assumes nothing.
use Rattle.std.specs.Prelude.{◌≡◌, refl, cond, List, [], ◌∷◌, ℕ, zero, suc, ◌+◌, ◌≤◌, ◌<◌, eqb, length, set}
use Rattle.std.proofs.Common.{sym, ◌∙◌, ap, arith, length-set, ext_get_or, get_or-set_same, get_or-set_other}
use Rattle.std.proofs.Math.Logic.{by_cases}
use Rattle.std.proofs.Math.Decide.{ℕ_discrete}
use Rattle.basics.specs.Decide.{at}
use Rattle.removal.specs.Removal.{Relabelled, map_indexed, relabelled}

pub map_size : (f : ℕ → ℕ → ℕ) (i : ℕ) (xs : List ℕ) → length (map_indexed f i xs) ≡ length xs
map_size f i [] = refl
map_size f i (x ∷ xs) = ap suc (map_size f (suc i) xs)

pub map_at : (f : ℕ → ℕ → ℕ) (i : ℕ) (xs : List ℕ) (k : ℕ) → k < length xs → at (map_indexed f i xs) k ≡ f (i + k) (at xs k)
map_at f i [] k l = absurd (omega arith)
map_at f i (x ∷ xs) zero l = ap (λ (j : ℕ). f j x) (let e : i ≡ i + 0 = omega arith in e)
map_at f i (x ∷ xs) (suc k) l = map_at f (suc i) xs k (omega arith) ∙ ap (λ (j : ℕ). f j (at xs k)) (let e : suc i + k ≡ i + suc k = omega arith in e)

-- a list as long, with these numbers, is the list
pub map_only : (f : ℕ → ℕ → ℕ) (xs ys : List ℕ) → length ys ≡ length xs → ((k : ℕ) → k < length xs → at ys k ≡ f k (at xs k)) → ys ≡ map_indexed f 0 xs
map_only f xs ys e h = ext_get_or 0 ys (map_indexed f 0 xs) (e ∙ sym (map_size f 0 xs))
    (λ k l. let m : k < length xs = omega arith in h k m ∙ sym (map_at f 0 xs k m ∙ ap (λ (j : ℕ). f j (at xs k)) (let z : 0 + k ≡ k = omega arith in z)))

pub relabelled_is : (node : List ℕ) (x w : ℕ) → Relabelled node x w (relabelled x w node)
unfolding relabelled
relabelled_is node x w = record {
  size = map_size (λ i n. cond (eqb n x) w n) 0 node;
  each = λ i l. map_at (λ i n. cond (eqb n x) w n) 0 node i l;
}

-- a list xs of which the numbers below i have been changed
pub record Mapping (f : ℕ → ℕ → ℕ) (xs ys : List ℕ) (i : ℕ) : Type 0 where
  pub most : i ≤ length xs
  pub size : length ys ≡ length xs
  pub past : (k : ℕ) → k < i → at ys k ≡ f k (at xs k)
  pub rest : (k : ℕ) → i ≤ k → at ys k ≡ at xs k

module _ (f : ℕ → ℕ → ℕ) (xs : List ℕ) where
  pub mapping_start : Mapping f xs xs 0
  mapping_start = record { most = omega arith; size = refl; past = λ k l. absurd (omega arith); rest = λ k l. refl }

  pub mapping_set : (ys : List ℕ) (i y : ℕ) → i < length ys → Mapping f xs ys i → y ≡ f i (at xs i) → Mapping f xs (set ys i y) (i + 1)
  mapping_set ys i y l m e = record {
    most = omega (arith, m.size);
    size = length-set ys i y ∙ m.size;
    past = λ k h. by_cases (ℕ_discrete k i) (λ d. rw d (get_or-set_same ys i y 0 l ∙ e)) (λ d. get_or-set_other ys i k y 0 d ∙ m.past k (omega arith));
    rest = λ k h. get_or-set_other ys i k y 0 (omega arith) ∙ m.rest k (omega arith);
  }

  pub mapping_skip : (ys : List ℕ) (i : ℕ) → i < length ys → Mapping f xs ys i → at xs i ≡ f i (at xs i) → Mapping f xs ys (i + 1)
  mapping_skip ys i l m e = record {
    most = omega (arith, m.size);
    size = m.size;
    past = λ k h. by_cases (ℕ_discrete k i) (λ d. rw d (m.rest i (omega arith) ∙ e)) (λ d. m.past k (omega arith));
    rest = λ k h. m.rest k (omega arith);
  }

  pub mapping_all : (ys : List ℕ) (i : ℕ) → length ys ≤ i → Mapping f xs ys i → ys ≡ map_indexed f 0 xs
  mapping_all ys i l m = map_only f xs ys m.size (λ k h. m.past k (omega (arith, m.size)))
