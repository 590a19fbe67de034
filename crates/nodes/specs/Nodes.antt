-- The first empty node and the first child of a node, and the laws of their searches. Assumes nothing.
use Rattle.std.proofs.Math.Path.{◌≡◌, refl}
use Rattle.std.proofs.Common.{sym, ◌∙◌}
use Rattle.std.specs.Prelude.{◌≢◌, ◌↔◌, Bool, true, false, List, ℕ, ◌+◌, ◌≤◌, ◌<◌}
use Rattle.std.proofs.Math.Bool.{not, false≢true}
use Rattle.std.proofs.Math.Option.{Option, none, some}
use native.Mathlib.Omega.{arith}
use borrow.Author.Tests.{not-true, not-false, eqb-true}
use Rattle.basics.specs.Decide.{at, not_yes, not_no}
use Rattle.basics.specs.Count.{count, first}
use Rattle.basics.proofs.CountLaws.{count_none, count_no, count_yes, first_some, first_none, first_yes, first_no, first_more, first_start}
use Rattle.faults.specs.Faults.{Below}
use Rattle.trees.specs.declared.Tree.{Tree}
use Rattle.trees.specs.Trees.{Child, is_used, nodes_used, is_child}
use Rattle.tree.specs.Nodes.{used_yes, used_no, child_yes, child_of}
use Rattle.bound.specs.Bound.{empty_node_lem}
use Rattle.edits.specs.Edits.{EmptyNode}

unfoldable pub empty_node : Tree → Option ℕ
empty_node t = first (λ n. not (is_used t n)) 128

unfoldable pub first_child : Tree → ℕ → Option ℕ
first_child t p = first (is_child t p) 128

module _ (t : Tree) where
  pub empty_of : (m : ℕ) → empty_node t ≡ some m → EmptyNode t m
  unfolding empty_node is_used
  empty_of m e = let s = first_some (λ n. not (is_used t n)) 128 m e in (s.low, eqb-true _ 0 (not-false _ (not-true _ s.passes)))

  -- where fewer than 128 nodes are in use, there is one
  pub empty_found : nodes_used t < 128 → (m : ℕ) × (empty_node t ≡ some m)
  unfolding empty_node
  empty_found h = go (first (λ n. not (is_used t n)) 128) refl
    where
      go : (o : Option ℕ) → first (λ n. not (is_used t n)) 128 ≡ o → (m : ℕ) × (first (λ n. not (is_used t n)) 128 ≡ some m)
      go (some m) e = (m, e)
      go none e =
          let (n, l, x) = empty_node_lem t h in
          absurd (false≢true (sym (first_none (λ n. not (is_used t n)) 128 e n l) ∙ not_yes (used_no t n x)))

  -- the search passes nodes in use
  pub record Passing (n : ℕ) : Type 0 where
    pub most : n ≤ 128
    pub none : first (λ k. not (is_used t k)) n ≡ none

  pub passing_start : Passing 0
  passing_start = record { most = omega arith; none = first_start _ }

  pub passing_next : (n : ℕ) → n < 128 → Passing n → at t.state n ≢ 0 → Passing (n + 1)
  passing_next n l p h = record { most = omega arith; none = first_no (λ k. not (is_used t k)) n p.none (not_no (used_yes t n h)) }

  pub passing_stop : (n : ℕ) → n < 128 → Passing n → at t.state n ≡ 0 → empty_node t ≡ some n
  unfolding empty_node
  passing_stop n l p h = first_more (λ k. not (is_used t k)) (n + 1) 128 n (first_yes (λ k. not (is_used t k)) n p.none (not_yes (used_no t n h))) (omega arith)

  -- and stops before the end where fewer than 128 are in use
  pub passing_over : nodes_used t < 128 → Passing 128 → ⊥
  unfolding empty_node
  passing_over h p =
      let (m, e) = empty_found h in
      let z : ◌≡◌ {A = ℕ} 0 1 = cc p.none in
      omega arith

  -- the search for a child starts behind node 0
  pub child_start : (p : ℕ) → first (is_child t p) 1 ≡ none
  unfolding is_child
  child_start p = first_no (is_child t p) 0 (first_start (is_child t p)) refl

  pub child_here : (p n : ℕ) → first (is_child t p) n ≡ none → Child t p n → first_child t p ≡ some n
  unfolding first_child
  child_here p n e c = first_more (is_child t p) (n + 1) 128 n (first_yes (is_child t p) n e (child_yes t p n c)) (omega (arith, c.1.0))

  pub child_past : (p n : ℕ) → n < 128 → first (is_child t p) n ≡ none → (Child t p n → ⊥) → first (is_child t p) (n + 1) ≡ none
  child_past p n l e h = first_no (is_child t p) n e (go (is_child t p n) refl)
    where
      go : (b : Bool) → is_child t p n ≡ b → is_child t p n ≡ false
      go true x = absurd (h (child_of t p n l x))
      go false x = x

  pub child_some : (p c : ℕ) → first_child t p ≡ some c → Child t p c
  unfolding first_child
  child_some p c e = let s = first_some (is_child t p) 128 c e in child_of t p c s.low s.passes

  pub no_child : (p : ℕ) → ((c : ℕ) → Child t p c → ⊥) → first_child t p ≡ none
  no_child p h = go (first_child t p) refl
    where
      go : (x : Option ℕ) → first_child t p ≡ x → first_child t p ≡ none
      go none e = e
      go (some c) e = absurd (h c (child_some p c e))

  pub child_none : (p : ℕ) → first_child t p ≡ none → (c : ℕ) → Child t p c → ⊥
  unfolding first_child
  child_none p e c h = false≢true (sym (first_none (is_child t p) 128 e c h.1.0) ∙ child_yes t p c h)

-- the count of children starts behind node 0 too
module _ (t : Tree) (p : ℕ) where
  pub children_start : count (is_child t p) 1 ≡ 0
  unfolding is_child
  children_start = count_no (is_child t p) 0 refl ∙ count_none (is_child t p)

  pub children_more : (n : ℕ) → Child t p n → count (is_child t p) (n + 1) ≡ count (is_child t p) n + 1
  children_more n c = count_yes (is_child t p) n (child_yes t p n c)

  pub children_same : (n : ℕ) → n < 128 → (Child t p n → ⊥) → count (is_child t p) (n + 1) ≡ count (is_child t p) n
  children_same n l h = count_no (is_child t p) n (go (is_child t p n) refl)
    where
      go : (b : Bool) → is_child t p n ≡ b → is_child t p n ≡ false
      go true x = absurd (h (child_of t p n l x))
      go false x = x

-- Children counted as they break a rule

-- node n is no child of v
abbrev pub NoChild : List ℕ → List ℕ → ℕ → ℕ → Type 0
NoChild state parent v n = n ≢ 0 → at state n ≢ 0 → at parent n ≡ v → ⊥

pub childless_below : (t : Tree) (v : ℕ) → Below (NoChild t.state t.parent v) 128 ↔ ((c : ℕ) → Child t v c → ⊥)
childless_below t v = (λ h c (z, u, e). h c u.0 z u.1 e, λ h n l z a e. h n (z, (l, a), e))
