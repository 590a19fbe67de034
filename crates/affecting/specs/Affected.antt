-- The nodes whose rows can lose their last reader when the version at node v goes. Assumes nothing.
use Rattle.std.specs.Prelude.{◌≡◌, ◌≢◌, ◌⊎◌, Bool, true, false, List, length, set, get_or}
use Rattle.std.proofs.Math.Path.{refl, ap}
use Rattle.std.proofs.Common.{sym, ◌∙◌, inl, inr, ⊎_elim, arith, length-set, get_or-set_same, get_or-set_other}
use Rattle.std.proofs.Math.Logic.{by_cases}
use Prim.Native.Nat.{ℕ, zero, suc, ◌+◌, ◌<◌}
use Rattle.std.proofs.Math.Decide.{ℕ_discrete}
use Rattle.trees.specs.declared.Tree.{Tree}
use Rattle.trees.specs.Trees.{InUse, Alive, Snapshot, up, ancestor, Reaches}
use Rattle.trees.specs.Rules.{States, Linked}
use Rattle.tree.specs.Going.{ancestor_up, ancestor_next, reaches_ind}
use Rattle.tree.specs.Loops.{Climbing, climb_start}
use Rattle.table.specs.Rules.{Meets, here, above}
use Rattle.table.proofs.Laws.{climb_ends}
use Rattle.asking.specs.Asking.{MeetsAlone}

-- what is told of a node, false past the end
abbrev pub told : List Bool → ℕ → Bool
told xs n = get_or xs n false

-- a truth value for each of 128 nodes: it is true where the version at node v alone can read a row of the node. Left free: the others, since a true costs
-- only a question
pub record Affected (t : Tree) (v : ℕ) (xs : List Bool) : Type 0 where
  pub size : length xs ≡ 128
  pub all : (marks : List ℕ) (g r : ℕ) → g < 128 → MeetsAlone t marks v g r → told xs g ≡ true

-- while going up from v, with node m next: what v meets is told, or m meets it too
pub record Passing (t : Tree) (v : ℕ) (xs : List Bool) (m : ℕ) : Type 0 where
  pub size : length xs ≡ 128
  pub met : (marks : List ℕ) (g r : ℕ) → Meets t marks r g v → (told xs g ≡ true) ⊎ Meets t marks r g m

-- Told one by one, going up

module _ (t : Tree) (v : ℕ) (xs : List Bool) where
  pub passing_first : length xs ≡ 128 → Passing t v xs v
  passing_first e = record { size = e; met = λ marks g r m. inr m }

  -- node m is told, and the way goes on above it
  pub passing_next : (m : ℕ) → m < 128 → Passing t v xs m → Passing t v (set xs m true) (up t m)
  passing_next m l p = record {
    size = length-set xs m true ∙ p.size;
    met = λ marks g r h. ⊎_elim (λ z. inl (kept g z)) (λ d. over marks g r d refl) (p.met marks g r h);
  }
    where
      new : told (set xs m true) m ≡ true
      new = get_or-set_same xs m true false (omega (arith, p.size))

      kept : (g : ℕ) → told xs g ≡ true → told (set xs m true) g ≡ true
      kept g z = by_cases (ℕ_discrete g m) (λ e. ap (told (set xs m true)) e ∙ new) (λ e. get_or-set_other xs m g true false e ∙ z)

      over : (marks : List ℕ) (g r : ℕ) {n : ℕ} → Meets t marks r g n → n ≡ m → (told (set xs m true) g ≡ true) ⊎ Meets t marks r g (up t m)
      over marks g r (here e) q = inl (ap (told (set xs m true)) (sym e ∙ q) ∙ new)
      over marks g r (above a z f d) q = inr (rw (← q) d)

  -- a living node above v reads what v read there
  pub passing_end : (m : ℕ) → Alive t m → m ≢ v → Passing t v xs m → Affected t v xs
  passing_end m a d p = record {
    size = p.size;
    all = λ marks g r l h. ⊎_elim (λ z. z) (λ k. absurd (h.alone (m, (a, d, k)))) (p.met marks g r h.meets);
  }

-- No node but node 0 is above itself

module _ (f : ℕ → ℕ) (z : f 0 ≡ 0) where
  ancestor_root : (k : ℕ) → ancestor f k 0 ≡ 0
  unfolding ancestor
  ancestor_root zero = refl
  ancestor_root (suc k) = ap (ancestor f k) z ∙ ancestor_root k

  pub above_other : (n : ℕ) → Reaches f n → (k : ℕ) → ancestor f (k + 1) n ≡ n → n ≡ 0
  above_other = reaches_ind f (λ n. (k : ℕ) → ancestor f (k + 1) n ≡ n → n ≡ 0) (λ k e. refl)
      (λ n d h k e.
      let r = h k (sym (ancestor_up f (k + 1) n) ∙ ancestor_next f (k + 1) n ∙ ap f e) in
      sym e ∙ ancestor_up f k n ∙ ap (ancestor f k) r ∙ ancestor_root k)

-- Climbs from a snapshot v

module _ (t : Tree) (v : ℕ) where
  used_node : Snapshot t v → InUse t v
  used_node (z, a) = (a.0, λ x. omega (arith, a.1))

  pub climb_first : Snapshot t v → Climbing t v v 0
  climb_first h = climb_start t v (used_node h)

  -- a climb does not come back to v, and ends in fewer than 128 steps
  pub climb_other : (m k : ℕ) → States t → Linked t → Snapshot t v → Climbing t v m (k + 1) → m ≢ v
  climb_other m k s l h c x = h.0 (above_other (up t) s.root.2 v (l.reaches v h.0 (used_node h)) k (sym c.where_now ∙ x))

  pub climb_short : (m : ℕ) → Linked t → Snapshot t v → Climbing t v m 128 → ⊥
  climb_short m l h c = climb_ends t v m l (used_node h) c
