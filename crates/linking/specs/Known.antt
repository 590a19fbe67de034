-- Nodes that are known to reach node 0. Assumes nothing.
use Rattle.std.specs.Prelude.{◌≡◌, ◌≢◌, ◌⊎◌, Bool, true, false, List, ℕ, zero, suc, ◌+◌, ◌<◌, get_or, length, set, replicate}
use Rattle.std.proofs.Common.{sym, ◌∙◌, ap, ⊎_elim, arith, length-set, get_or-set_same, get_or-set_other}
use Rattle.std.proofs.Math.Logic.{by_cases, inr}
use Rattle.std.proofs.Math.Decide.{ℕ_discrete}
use Rattle.std.proofs.lemmas.List.{length-replicate, get_or-replicate}
use Rattle.std.proofs.lemmas.Bool.{false≢true}
use Rattle.trees.specs.declared.Tree.{Tree}
use Rattle.trees.specs.Trees.{InUse, up, ancestor, Reaches}
use Rattle.tree.specs.Going.{ancestor_more, reaches_root}
use Rattle.tree.specs.Loops.{Climbing}

-- every node in use but node 0 reaches node 0
abbrev pub AllReach : Tree → Type 0
AllReach t = (n : ℕ) → n ≢ 0 → InUse t n → Reaches (up t) n

-- each of 128 nodes that is noted reaches node 0, and node 0 is such a one. Left free: which other nodes are noted, since that only saves steps
pub record Known (t : Tree) (known : List Bool) : Type 0 where
  pub size : length known ≡ 128
  pub root : get_or known 0 false ≡ true
  pub reaches : (n : ℕ) → n < 128 → get_or known n false ≡ true → Reaches (up t) n

module _ (t : Tree) where
  -- what is noted stays so, and so is the node that is noted now
  pub known_stays : (known : List Bool) (m n : ℕ) → m < 128 → Known t known → (n ≡ m) ⊎ (get_or known n false ≡ true) → get_or (set known m true) n false ≡ true
  known_stays known m n l k h = by_cases (ℕ_discrete n m)
      (λ e. ap (λ (i : ℕ). get_or (set known m true) i false) e ∙ get_or-set_same known m true false (omega (arith, k.size)))
      (λ e. get_or-set_other known m n true false e ∙ ⊎_elim (λ x. absurd (e x)) (λ x. x) h)

  pub known_next : (known : List Bool) (n : ℕ) → n < 128 → Reaches (up t) n → Known t known → Known t (set known n true)
  known_next known n l r k = record {
    size = length-set known n true ∙ k.size;
    root = known_stays known n 0 l k (inr k.root);
    reaches = λ m b z. by_cases (ℕ_discrete m n) (λ e. rw e r) (λ e. k.reaches m b (sym (get_or-set_other known n m true false e) ∙ z));
  }

  pub known_first : Known t (set (replicate 128 false) 0 true)
  known_first = record {
    size = length-set none 0 true ∙ long;
    root = get_or-set_same none 0 true false (omega (arith, long));
    reaches = λ n l z. by_cases (ℕ_discrete n 0)
        (λ e. rw e (reaches_root (up t)))
        (λ e. absurd (false≢true (sym (get_or-replicate {A = Bool} 128 n false false l) ∙ sym (get_or-set_other none 0 n true false e) ∙ z)));
  }
    where
      none : List Bool
      none = replicate 128 false

      long : length none ≡ 128
      long = length-replicate {A = Bool} 128 false

  -- a climb that has come to a node that reaches node 0 began at one
  pub climb_reaches : (n node k : ℕ) → Climbing t n node k → Reaches (up t) node → Reaches (up t) n
  climb_reaches n node k c (m, e) = (k + m, ancestor_more (up t) k m n ∙ rw (← c.where_now) e)

-- the parent of a node that reaches node 0 does, too
pub reaches_above : (f : ℕ → ℕ) (n : ℕ) → n ≢ 0 → Reaches f n → Reaches f (f n)
unfolding ancestor
reaches_above f n z (zero, e) = absurd (z e)
reaches_above f n z (suc k, e) = (k, e)
