-- Rule 4 one node of the list at a time, as the check tests it, and the remainders of tags that it has seen. Assumes nothing.
use Rattle.std.specs.Prelude.{◌≡◌, ◌≢◌, Bool, true, false, List, ℕ, ◌+◌, ◌%◌, ◌≤◌, ◌<◌, get_or, length, set, replicate}
use Rattle.std.proofs.Common.{sym, ◌∙◌, ap, arith, length-set, get_or-set_same, get_or-set_other}
use Rattle.std.proofs.Math.Logic.{by_cases}
use Rattle.std.proofs.Math.Decide.{ℕ_discrete, dec_lt}
use Rattle.std.proofs.lemmas.List.{length-replicate}
use Rattle.std.proofs.lemmas.Bool.{false≢true}
use Rattle.basics.specs.Decide.{Decides, at}
use Rattle.faults.specs.Faults.{Below}
use Rattle.trees.specs.declared.Tree.{Tree}
use Rattle.trees.specs.Trees.{snapshots}
use Rattle.trees.specs.Rules.{States, Tagged}
use Rattle.listing.specs.Listed.{Listed}

-- the tag at position j of the list is none of those before it
abbrev pub Differs : List ℕ → List ℕ → ℕ → Type 0
Differs tag xs j = (i : ℕ) → i < j → at tag (at xs i) ≢ at tag (at xs j)

-- rule 4's first half at position j: a living node's tag is above 0, and none of those before it
abbrev pub TagAt : Tree → List ℕ → ℕ → Type 0
TagAt t xs j = at t.state (at xs j) ≡ 1 → (0 < at t.tag (at xs j)) × Differs t.tag xs j

-- seen are the remainders of the living nodes' tags before position j. Left free: whether others are, since that only costs a comparison
pub record Seen (t : Tree) (xs : List ℕ) (seen : List Bool) (j : ℕ) : Type 0 where
  pub size : length seen ≡ 251
  pub met : (i : ℕ) → i < j → at t.state (at xs i) ≡ 1 → get_or seen (at t.tag (at xs i) % 251) false ≡ true

-- a verdict on P at position j, and if it is good, what is seen then
pub record Fitted (t : Tree) (xs : List ℕ) (j : ℕ) (P : Type 0) (seen : List Bool) (b : Bool) : Type 0 where
  pub decided : Decides b P
  pub goes_on : b ≡ true → Seen t xs seen (j + 1)

module _ (t : Tree) (xs : List ℕ) where
  pub seen_first : Seen t xs (replicate 251 false) 0
  seen_first = record { size = length-replicate {A = Bool} 251 false; met = λ i l. absurd (omega arith) }

  -- nothing new is to be seen at position j
  pub seen_past : (seen : List Bool) (j : ℕ) → (at t.state (at xs j) ≡ 1 → get_or seen (at t.tag (at xs j) % 251) false ≡ true) → Seen t xs seen j → Seen t xs seen (j + 1)
  seen_past seen j h s = record { size = s.size; met = λ i l a. by_cases (ℕ_discrete i j) (λ e. rw e (h (rw e at a))) (λ e. s.met i (omega arith) a) }

  -- the remainder at position j is seen now
  pub seen_next : (seen : List Bool) (j r : ℕ) → r < 251 → at t.tag (at xs j) % 251 ≡ r → Seen t xs seen j → Seen t xs (set seen r true) (j + 1)
  seen_next seen j r l e s = record {
    size = length-set seen r true ∙ s.size;
    met = λ i b a. by_cases (ℕ_discrete (at t.tag (at xs i) % 251) r)
        (λ d. ap (λ (x : ℕ). get_or (set seen r true) x false) d ∙ get_or-set_same seen r true false (omega (arith, s.size)))
        (λ d. by_cases (ℕ_discrete i j)
        (λ x. absurd (d (ap (λ (k : ℕ). at t.tag (at xs k) % 251) x ∙ e)))
        (λ x. get_or-set_other seen r _ true false d ∙ s.met i (omega arith) a));
  }

  module _ (s : States t) (l : Listed t.state xs) where
    -- a listed node with a tag is alive
    living : (i : ℕ) → i < length xs → at t.tag (at xs i) ≢ 0 → at t.state (at xs i) ≡ 1
    living i b z =
        let (y, k, u) = l.each i b in
        by_cases (ℕ_discrete (at t.state (at xs i)) 1) (λ e. e) (λ e. absurd (z (s.ghost _ (k, omega (arith, s.kinds _ k)))))

    -- where a remainder is not seen, its tag is none of those before
    pub unseen_differs : (seen : List Bool) (j : ℕ) → j < length xs → 0 < at t.tag (at xs j) → get_or seen (at t.tag (at xs j) % 251) false ≡ false → Seen t xs seen j → Differs t.tag xs j
    unseen_differs seen j b z e h i k d = false≢true (sym e ∙ sym (ap (λ (g : ℕ). get_or seen (g % 251) false) d) ∙ h.met i k (living i (omega arith) (λ x. omega (arith, d))))

    pub tags_all : Below (TagAt t xs) (length xs) → snapshots t ≤ 64 → Tagged t
    tags_all h m = record {
      above = λ n a. let (j, b, e) = l.all n a.0 a.1.0 (λ x. omega (arith, a.1.1)) in rw (← e) (h j b (rw (← e) at a.1.1)).0;
      different = λ n k a c d.
          let (i, b, e) = l.all n a.0 a.1.0 (λ x. omega (arith, a.1.1)) in
          let (j, f, g) = l.all k c.0 c.1.0 (λ x. omega (arith, c.1.1)) in
          let same : at t.tag (at xs i) ≡ at t.tag (at xs j) = ap (at t.tag) e ∙ d ∙ sym (ap (at t.tag) g) in
          by_cases (dec_lt i j)
          (λ x. absurd ((h j f (rw (← g) at c.1.1)).1 i x same))
          (λ x. by_cases (dec_lt j i) (λ y. absurd ((h i b (rw (← e) at a.1.1)).1 j y (sym same))) (λ y. let q : i ≡ j = omega arith in sym e ∙ ap (at xs) q ∙ g));
      most = m;
    }

    pub tags_at_lem : Tagged t → (j : ℕ) → j < length xs → TagAt t xs j
    tags_at_lem g j b a =
        let (z, k, u) = l.each j b in
        let up = g.above (at xs j) (z, (k, a)) in (
          up,
          λ i f e.
              let (y, h, w) = l.each i (omega arith) in
              let q = l.apart i j (omega arith) b (g.different _ _ (y, (h, living i (omega arith) (λ x. omega (arith, e)))) (z, (k, a)) e) in
              omega arith,
        )
