-- The count of children, position by position of the list of nodes in use, and rule 5 from it. Assumes nothing.
use Rattle.std.specs.Prelude.{◌≡◌, Bool, true, List, ℕ, ◌+◌, ◌≤◌, ◌<◌, eqb, length, set, replicate}
use Rattle.std.proofs.Common.{sym, ◌∙◌, ap, arith, get_or-set_same, get_or-set_other, eq-eqb, ne_eqb, eqb-true}
use Rattle.std.proofs.Math.Logic.{by_cases}
use Rattle.std.proofs.Math.Decide.{ℕ_discrete}
use Rattle.std.proofs.lemmas.List.{get_or-replicate}
use Rattle.basics.specs.Decide.{at}
use Rattle.basics.specs.Count.{count}
use Rattle.basics.proofs.CountLaws.{count_none, count_no, count_yes, count_two, count_pair, count_one}
use Rattle.faults.specs.Faults.{Below}
use Rattle.trees.specs.declared.Tree.{Tree}
use Rattle.trees.specs.Trees.{up, Child}
use Rattle.trees.specs.Rules.{States, Branching}
use Rattle.listing.specs.Listed.{Listed, listed_all}

-- does a child of p stand at position j?
abbrev pub child_at : Tree → List ℕ → ℕ → ℕ → Bool
child_at t xs p j = eqb (up t (at xs j)) p

-- the numbers of children, counted up to position m
abbrev pub Counted : Tree → List ℕ → List ℕ → ℕ → Type 0
Counted t xs kids m = (p : ℕ) → p < 128 → at kids p ≡ count (child_at t xs p) m

-- rule 5 at a ghost: two children or more
abbrev pub Forks : Tree → List ℕ → ℕ → Type 0
Forks t kids n = at t.state n ≡ 2 → 2 ≤ at kids n

module _ (t : Tree) (xs : List ℕ) where
  pub counted_first : Counted t xs (replicate 128 0) 0
  counted_first p l = get_or-replicate {A = ℕ} 128 p 0 0 l ∙ sym (count_none (child_at t xs p))

  pub counted_next : (kids : List ℕ) (p j : ℕ) → length kids ≡ 128 → p < 128 → up t (at xs j) ≡ p → Counted t xs kids j → Counted t xs (set kids p (at kids p + 1)) (j + 1)
  counted_next kids p j e l u k q m = by_cases (ℕ_discrete q p)
      (λ x. rw (x, get_or-set_same kids p (at kids p + 1) 0 (rw e l), count_yes (child_at t xs p) j (eq-eqb _ p u), k p l))
      (λ x. get_or-set_other kids p q (at kids p + 1) 0 x ∙ k q m ∙ sym (count_no (child_at t xs q) j (ne_eqb _ q (λ y. x (sym y ∙ u)))))

  module _ (l : Listed t.state xs) where
    -- a child and its position
    child_position : (p c : ℕ) → Child t p c → (j : ℕ) × (j < length xs) × (at xs j ≡ c) × (child_at t xs p j ≡ true)
    child_position p c h = let (j, b, e) = l.all c h.0 h.1.0 h.1.1 in (j, b, e, eq-eqb _ p (ap (up t) e ∙ h.2))

    position_child : (p j : ℕ) → j < length xs → child_at t xs p j ≡ true → Child t p (at xs j)
    position_child p j b e = let (z, k, u) = l.each j b in (z, (k, u), eqb-true _ p e)

    module _ (kids : List ℕ) (k : Counted t xs kids (length xs)) where
      pub branch_root : Branching t → at kids 0 ≤ 1
      branch_root b = rw (k 0 (omega arith)) (count_one (child_at t xs 0) (length xs) (λ i j f g x y. l.apart i j f g (b.root _ _ (position_child 0 i f x) (position_child 0 j g y))))

      pub branch_ghost : Branching t → (n : ℕ) → n < 128 → Forks t kids n
      branch_ghost b n h e =
          let (c, d, z, x, y) = b.ghost n (h, e) in
          let (i, f, p, u) = child_position n c x in
          let (j, g, q, v) = child_position n d y in
          rw (k n h) (count_two (child_at t xs n) (length xs) i j f g (λ w. z (sym p ∙ ap (at xs) w ∙ q)) u v)

      -- rule 5 from its tests
      pub branch_all : States t → at kids 0 ≤ 1 → Below (λ j. Forks t kids (at xs j)) (length xs) → Branching t
      branch_all s r g = record {
        root = λ c d x y.
            let (i, f, p, u) = child_position 0 c x in
            let (j, h, q, v) = child_position 0 d y in
            by_cases (ℕ_discrete c d) (λ e. e)
            (λ e. absurd (omega (arith, r, k 0 (omega arith), count_two (child_at t xs 0) (length xs) i j f h (λ w. e (sym p ∙ ap (at xs) w ∙ q)) u v)));
        ghost = λ n h.
            let two : 2 ≤ at kids n = listed_all l (Forks t kids) g n (λ z. omega (arith, s.root.0, h.1, ap (at t.state) z)) h.0 (λ z. omega (arith, h.1)) h.1 in
            let (i, j, f, w, d, x, y) = count_pair (child_at t xs n) (length xs) (omega (arith, two, k n h.0)) in
            (at xs i, at xs j, (λ e. d (l.apart i j f w e)), position_child n i f x, position_child n j w y);
      }
