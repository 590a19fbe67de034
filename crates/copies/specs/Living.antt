-- Who lives, after a snapshot and after a delete; and the rows of those who live, as a list. Assumes nothing.
use Rattle.std.specs.Prelude.{◌≡◌, refl, ◌≢◌, ◌↔◌, ◌⊎◌, Bool, true, false, cond, ◌||◌, List, [], ◌∷◌, ℕ, zero, suc, ◌<◌, eqb}
use Rattle.std.proofs.Common.{sym, ◌∙◌, ap, subst, inl, inr, arith, eq-eqb, ne_eqb, eqb-true}
use Rattle.std.proofs.Math.Logic.{⊎_map, by_cases}
use Rattle.std.proofs.lemmas.Bool.{false≢true}
use Rattle.std.proofs.Math.Decide.{ℕ_discrete}
use Rattle.copies.specs.Copies.{Cell, any, living, alive, Live, rows_of, cells, without}
use Rattle.copies.specs.Members.{In, any_yes, any_some}

pub alive_origin : (tags : List ℕ) → alive tags 0 ≡ true
unfolding alive
alive_origin tags = any_yes (eqb 0) (living tags) 0 (inl refl) (eq-eqb 0 0 refl)

or_swap : (a b c : Bool) → (a || (b || c)) ≡ (b || (a || c))
or_swap true true c = refl
or_swap true false c = refl
or_swap false b c = refl

pub alive_cons : (tags : List ℕ) (t u : ℕ) → alive (t ∷ tags) u ≡ (eqb u t || alive tags u)
unfolding alive any
alive_cons tags t u = or_swap (eqb u 0) (eqb u t) (any (eqb u) tags)

-- a version that lives after a snapshot t of s: it lived before, or it is t and s lived
pub alive_source : (tags : List ℕ) (s t u : ℕ) → alive tags s ≡ true → alive (t ∷ tags) u ≡ true → alive tags (cond (eqb u t) s u) ≡ true
alive_source tags s t u h e = go (eqb u t) (sym (alive_cons tags t u) ∙ e)
  where
    go : (b : Bool) → (b || alive tags u) ≡ true → alive tags (cond b s u) ≡ true
    go true x = h
    go false x = x

any_gone : (t : ℕ) (ts : List ℕ) → any (eqb t) (without t ts) ≡ false
unfolding any without
any_gone t [] = refl
any_gone t (u ∷ us) = by_cases (ℕ_discrete u t)
    (λ e. rw (eq-eqb u t e) (any_gone t us))
    (λ e. rw (ne_eqb u t e, ne_eqb t u (λ x. e (sym x))) (any_gone t us))

any_stays : (t u : ℕ) (ts : List ℕ) → u ≢ t → any (eqb u) (without t ts) ≡ any (eqb u) ts
unfolding any without
any_stays t u [] h = refl
any_stays t u (w ∷ ws) h = by_cases (ℕ_discrete w t)
    (λ e. rw (eq-eqb w t e, ne_eqb u w (λ x. h (x ∙ e))) (any_stays t u ws h))
    (λ e. rw (ne_eqb w t e) (ap (◌||◌ (eqb u w)) (any_stays t u ws h)))

pub alive_gone : (tags : List ℕ) (t : ℕ) → t ≢ 0 → alive (without t tags) t ≡ false
unfolding alive any
alive_gone tags t h = rw (ne_eqb t 0 h) (any_gone t tags)

pub alive_stays : (tags : List ℕ) (t u : ℕ) → u ≢ t → alive (without t tags) u ≡ alive tags u
unfolding alive any
alive_stays tags t u h = ap (◌||◌ (eqb u 0)) (any_stays t u tags h)

-- a version that lives after t's deletion lived before it
pub alive_before : (tags : List ℕ) (t u : ℕ) → t ≢ 0 → alive (without t tags) u ≡ true → alive tags u ≡ true
alive_before tags t u h e = by_cases (ℕ_discrete u t)
    (λ x. absurd (false≢true (sym (alive_gone tags t h) ∙ (rw x at e))))
    (λ x. sym (alive_stays tags t u x) ∙ e)

-- Living, as being in the list of the living, and so for their rows

pub alive_in : (tags : List ℕ) (t : ℕ) → alive tags t ≡ true ↔ In t (living tags)
unfolding alive
alive_in tags t = (
  λ e. let (u, i, x) = any_some (eqb t) (living tags) e in subst (λ v. In v (living tags)) (sym (eqb-true t u x)) i,
  λ i. any_yes (eqb t) (living tags) t i (eq-eqb t t refl),
)

rows_of_lem : (t n : ℕ) (cs : List Cell) (c : Cell) → In c (rows_of t n cs) → ((c.0 ≡ t) × (c.1 < n)) ⊎ In c cs
rows_of_lem t zero cs c i = inr i
rows_of_lem t (suc n) cs c (inl e) = inl (ap (λ (d : Cell). d.0) e, omega (arith, ap (λ (d : Cell). d.1) e))
rows_of_lem t (suc n) cs c (inr i) = ⊎_map (λ h. (h.0, omega arith)) (λ j. j) (rows_of_lem t n cs c i)

rows_in : (t n : ℕ) (cs : List Cell) (c : Cell) → c.0 ≡ t → c.1 < n → In c (rows_of t n cs)
rows_in t zero cs c e l = absurd (omega arith)
rows_in t (suc n) cs c e l = by_cases (ℕ_discrete c.1 n) (λ k. inl (λ i. (e i, k i))) (λ k. inr (rows_in t n cs c e (omega arith)))

rows_past : (t n : ℕ) (cs : List Cell) (c : Cell) → In c cs → In c (rows_of t n cs)
rows_past t zero cs c i = i
rows_past t (suc n) cs c i = inr (rows_past t n cs c i)

cells_of : (n : ℕ) (ts : List ℕ) (c : Cell) → In c (cells n ts) → In c.0 ts × (c.1 < n)
cells_of n [] c i = absurd i
cells_of n (t ∷ ts) c i = go (rows_of_lem t n (cells n ts) c i) (cells_of n ts c)
  where
    go : ((c.0 ≡ t) × (c.1 < n)) ⊎ In c (cells n ts) → (In c (cells n ts) → In c.0 ts × (c.1 < n)) → In c.0 (t ∷ ts) × (c.1 < n)
    go (inl h) f = (inl h.0, h.1)
    go (inr j) f = let (k, l) = f j in (inr k, l)

cells_in : (n : ℕ) (ts : List ℕ) (c : Cell) → In c.0 ts → c.1 < n → In c (cells n ts)
cells_in n [] c i l = absurd i
cells_in n (t ∷ ts) c (inl e) l = rows_in t n (cells n ts) c e l
cells_in n (t ∷ ts) c (inr i) l = rows_past t n (cells n ts) c (cells_in n ts c i l)

pub live_in : (n : ℕ) (tags : List ℕ) (c : Cell) → Live n tags c ↔ In c (cells n (living tags))
live_in n tags c = (
  λ l. cells_in n (living tags) c ((alive_in tags c.0).0 l.0) l.1,
  λ i. let (j, l) = cells_of n (living tags) c i in ((alive_in tags c.0).1 j, l),
)
