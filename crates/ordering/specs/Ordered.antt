-- A list of the nodes in use in which each comes after its parent, and before the end of its parent's children. Assumes nothing.
use Rattle.std.specs.Prelude.{◌≡◌, ◌≢◌, ◌⊎◌, ◌↔◌, Bool, true, false, List, ℕ, ◌+◌, ◌≤◌, ◌<◌, length, set, get_or, replicate}
use Rattle.std.proofs.Common.{sym, ◌∙◌, ap, inl, inr, arith, length-set, get_or-set_same, get_or-set_other}
use Rattle.std.proofs.Math.Logic.{by_cases}
use Rattle.std.proofs.lemmas.Bool.{false≢true}
use Rattle.std.proofs.Math.Decide.{ℕ_discrete, dec_lt}
use Rattle.std.proofs.Math.ListN.{get_or-eq_default}
use Rattle.std.proofs.lemmas.List.{get_or-replicate, length-replicate}
use Rattle.basics.specs.Decide.{at}
use Rattle.trees.specs.declared.Tree.{Tree}
use Rattle.trees.specs.Trees.{InUse, up}
use Rattle.listing.specs.Listed.{Listed}

-- position j holds a node other than node 0, whose parent is node 0, or stands before and has its end behind
abbrev pub Follows : List ℕ → List ℕ → List ℕ → ℕ → Type 0
Follows parent order end j = (at order j ≢ 0) × (at order j < 128)
    × ((at parent (at order j) ≡ 0) ⊎ ((i : ℕ) × (i < j) × (at order i ≡ at parent (at order j)) × (j < at end (at parent (at order j)))))

pub record Ordered (t : Tree) (order end : List ℕ) : Type 0 where
  pub each : (j : ℕ) → j < length order → Follows t.parent order end j
  pub all : (n : ℕ) → n ≢ 0 → InUse t n → (j : ℕ) × (j < length order) × (at order j ≡ n)

-- a parent lies in the tree
pub parent_low : (t : Tree) (order end : List ℕ) → Ordered t order end → (j : ℕ) → j < length order → up t (at order j) < 128
parent_low t order end o j l = go (o.each j l).2
  where
    go : (up t (at order j) ≡ 0) ⊎ ((i : ℕ) × (i < j) × (at order i ≡ up t (at order j)) × (j < at end (up t (at order j)))) → up t (at order j) < 128
    go (inl e) = omega arith
    go (inr (i, m, e, f)) = omega (arith, e, (o.each i (omega arith)).1)

-- The first j positions tested, and the nodes there noted

-- whether a node is noted, false past the end
abbrev pub is_noted : List Bool → ℕ → Bool
is_noted seen n = get_or seen n false

pub record Noting (parent order end : List ℕ) (seen : List Bool) (j : ℕ) : Type 0 where
  pub size : length seen ≡ 128
  pub each : (i : ℕ) → i < j → Follows parent order end i
  pub noted : (n : ℕ) → is_noted seen n ≡ true → (i : ℕ) × (i < j) × (at order i ≡ n)
  pub marked : (i : ℕ) → i < j → is_noted seen (at order i) ≡ true

module _ (parent order end : List ℕ) (seen : List Bool) where
  pub noting_first : length seen ≡ 128 → ((n : ℕ) → is_noted seen n ≡ false) → Noting parent order end seen 0
  noting_first e z = record { size = e; each = λ i l. absurd (omega arith); noted = λ n x. absurd (false≢true (sym (z n) ∙ x)); marked = λ i l. absurd (omega arith) }

  pub noting_next : (j : ℕ) → Follows parent order end j → Noting parent order end seen j → Noting parent order end (set seen (at order j) true) (j + 1)
  noting_next j f h = record {
    size = length-set seen (at order j) true ∙ h.size;
    each = λ i l. by_cases (ℕ_discrete i j) (λ e. rw e f) (λ e. h.each i (omega arith));
    noted = λ n x. by_cases (ℕ_discrete n (at order j))
        (λ e. (j, omega arith, sym e))
        (λ e. let (i, l, y) = h.noted n (sym (get_or-set_other seen (at order j) n true false e) ∙ x) in (i, omega arith, y));
    marked = λ i l. by_cases (ℕ_discrete (at order i) (at order j))
        (λ e. ap (is_noted (set seen (at order j) true)) e ∙ get_or-set_same seen (at order j) true false (omega (arith, h.size, f.1)))
        (λ e. get_or-set_other seen (at order j) (at order i) true false e ∙ h.marked i (by_cases (ℕ_discrete i j) (λ y. absurd (e (ap (at order) y))) (λ y. omega arith)));
  }

  -- a position whose node's parent is past the tree, or is not noted, is out of order
  pub parent_past : (j : ℕ) → Noting parent order end seen j → Follows parent order end j → 128 ≤ at parent (at order j) → ⊥
  parent_past j h (a, b, inl e) l = omega (arith, e)
  parent_past j h (a, b, inr (i, m, e, f)) l = omega (arith, e, (h.each i m).1)

  pub parent_missing : (j : ℕ) → Noting parent order end seen j → Follows parent order end j → at parent (at order j) ≢ 0 → is_noted seen (at parent (at order j)) ≡ false → ⊥
  parent_missing j h (a, b, inl e) z x = z e
  parent_missing j h (a, b, inr (i, m, e, f)) z x = false≢true (sym x ∙ rw e at (h.marked i m))

  -- and so is one that does not stand before the end of its parent's children
  pub end_missed : (j : ℕ) → Follows parent order end j → at parent (at order j) ≢ 0 → at end (at parent (at order j)) ≤ j → ⊥
  end_missed j (a, b, inl e) z l = z e
  end_missed j (a, b, inr (i, m, e, f)) z l = omega (arith, f, l)

-- at first no node is noted
pub none_noted : (n : ℕ) → is_noted (replicate 128 false) n ≡ false
none_noted n = by_cases (dec_lt n 128)
    (λ l. get_or-replicate {A = Bool} 128 n false false l)
    (λ l. get_or-eq_default (replicate 128 false) false {n = n} (omega (arith, length-replicate {A = Bool} 128 false)))

-- with all positions tested, the list is in order if and only if all nodes in use are noted
pub ordered_all : (t : Tree) (used order end : List ℕ) (seen : List Bool) → Listed t.state used → Noting t.parent order end seen (length order) → ((i : ℕ) → i < length used → is_noted seen (at used i) ≡ true) ↔ Ordered t order end
ordered_all t used order end seen l h = (
  λ a. record { each = h.each; all = λ n z u. let (i, b, e) = l.all n z u.0 u.1 in h.noted n (rw e at (a i b)) },
  λ o i b. let (z, m, u) = l.each i b in let (j, k, e) = o.all (at used i) z (m, u) in rw e at (h.marked j k),
)
