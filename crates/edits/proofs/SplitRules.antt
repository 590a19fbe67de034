-- A tree with a node split keeps the rules 2 to 5. Assumes nothing.
use Rattle.std.specs.Prelude.{◌≡◌, ◌≢◌, ◌⊎◌, false, not, ℕ, ◌≤◌, ◌<◌, eqb}
use Rattle.std.proofs.Common.{sym, ◌∙◌, ap, inl, inr, eqb-true}
use Rattle.std.proofs.Math.Logic.{by_cases}
use Rattle.std.proofs.Math.Decide.{ℕ_discrete}
use native.Mathlib.Omega.{arith}
use Rattle.basics.specs.Decide.{at, and_no}
use Rattle.trees.specs.declared.Tree.{Tree}
use Rattle.trees.specs.Trees.{InUse, Alive, Ghost, up, Child, Reaches, is_snapshot, snapshots}
use Rattle.trees.specs.Rules.{States, Linked, Tagged, Branching}
use Rattle.tree.specs.Going.{reaches_ind, reaches_root, reaches_up}
use Rattle.tree.specs.Loops.{linked_reaches}
use Rattle.tree.specs.Nodes.{snapshot_yes}
use Rattle.tree.specs.Rules.{TreeSound}
use Rattle.edits.specs.Edits.{split}
use Rattle.edits.proofs.Split.{Splits, used_apart, used_v, v_apart, m_off, state_v, state_m, state_old, tag_v, tag_m, tag_old, up_m, up_old, each, used_old, used_back, alive_m, alive_back, child_old, child_back, child_m}
use Rattle.edits.proofs.SplitCount.{count_swap}

-- a node that does not live is no snapshot
snapshot_no : (t : Tree) (n : ℕ) → at t.state n ≢ 1 → is_snapshot t n ≡ false
unfolding is_snapshot
snapshot_no t n d = and_no (not (eqb n 0)) (eqb (at t.state n) 1) (λ a b. d (eqb-true _ 1 b))

module _ (t : Tree) (v c m : ℕ) (h : Splits t v c m) where
  split_states : States (split t v m)
  split_states =
      let a : 0 ≢ v = λ e. h.snapshot.0 (sym e) in
      let b : 0 ≢ m = λ e. m_off t v c m h (sym e) in
      let (x, y, w) = h.rules.states.root in
      record {
        kinds = each t v c m h (λ n. n < 128 → at (split t v m).state n ≤ 2)
            (λ l. omega (arith, state_v t v c m h)) (λ l. omega (arith, state_m t v c m h)) (λ n p q l. omega (arith, state_old t v c m h n p q, h.rules.states.kinds n l));
        root = (state_old t v c m h 0 a b ∙ x, tag_old t v c m h 0 a b ∙ y, up_old t v c m h 0 b ∙ w);
        empty = each t v c m h (λ n. n < 128 → at (split t v m).state n ≡ 0 → (at (split t v m).tag n ≡ 0) × (up (split t v m) n ≡ 0))
            (λ l e. absurd (omega (arith, state_v t v c m h))) (λ l e. absurd (omega (arith, state_m t v c m h)))
            (λ n p q l e. let (f, g) = h.rules.states.empty n l (sym (state_old t v c m h n p q) ∙ e) in (tag_old t v c m h n p q ∙ f, up_old t v c m h n q ∙ g));
        ghost = each t v c m h (λ n. Ghost (split t v m) n → at (split t v m).tag n ≡ 0)
            (λ g. tag_v t v c m h) (λ g. absurd (omega (arith, state_m t v c m h, g.1)))
            (λ n p q g. tag_old t v c m h n p q ∙ h.rules.states.ghost n (g.0, sym (state_old t v c m h n p q) ∙ g.1));
      }

  pub split_linked : Linked (split t v m)
  split_linked = record {
    parent = λ n f u. by_cases (ℕ_discrete n m)
        (λ e. rw (e, up_m t v c m h) (used_old t v c m h v (used_v t v c m h)))
        (λ e. rw (up_old t v c m h n e) (used_old t v c m h (up t n) (h.rules.linked.parent n f (used_back t v c m h n e u))));
    reaches = λ n f u. by_cases (ℕ_discrete n m)
        (λ e. rw e (reaches_up (up (split t v m)) m (rw (up_m t v c m h) (old v (used_v t v c m h)))))
        (λ e. old n (used_back t v c m h n e u));
  }
    where
      old : (n : ℕ) → InUse t n → Reaches (up (split t v m)) n
      old n u = reaches_ind (up t) (λ k. InUse t k → Reaches (up (split t v m)) k) (λ w. reaches_root (up (split t v m)))
          (λ k f q w. reaches_up (up (split t v m)) k (rw (up_old t v c m h k (used_apart t v c m h k w)) (q (h.rules.linked.parent k f w))))
          n (linked_reaches t h.rules.linked n u) u

  -- the snapshots are as many: m stands in for v
  split_snapshots : snapshots (split t v m) ≤ 64
  unfolding snapshots is_snapshot
  split_snapshots = omega (
    arith,
    h.rules.tagged.most,
    count_swap (is_snapshot t) (is_snapshot (split t v m)) 128 v m h.snapshot.1.0 h.empty.0 (v_apart t v c m h)
        (snapshot_yes t v h.snapshot) (snapshot_no t m (λ e. omega (arith, h.empty.1)))
        (snapshot_no (split t v m) v (λ e. omega (arith, state_v t v c m h))) (snapshot_yes (split t v m) m (m_off t v c m h, alive_m t v c m h))
        (λ k l x y. rw (state_old t v c m h k x y)),
  )

  split_tagged : Tagged (split t v m)
  split_tagged = record {
    above = λ n s. above n (alive_back t v c m h n s.1) s.0;
    different = λ n k s r e. different n k s.0 r.0 (alive_back t v c m h n s.1) (alive_back t v c m h k r.1) e;
    most = split_snapshots;
  }
    where
      Living : ℕ → Type 0
      Living n = (n ≡ m) ⊎ ((n ≢ v) × (n ≢ m) × Alive t n)

      above : (n : ℕ) → Living n → n ≢ 0 → 0 < at (split t v m).tag n
      above n (inl e) f = rw (e, tag_m t v c m h) (h.rules.tagged.above v h.snapshot)
      above n (inr (x, y, a)) f = rw (tag_old t v c m h n x y) (h.rules.tagged.above n (f, a))

      -- no old one has the tag that m got
      clash : (k : ℕ) → k ≢ 0 → k ≢ v → k ≢ m → Alive t k → at (split t v m).tag m ≡ at (split t v m).tag k → ⊥
      clash k f x y a p = x (sym (h.rules.tagged.different v k h.snapshot (f, a) (sym (tag_m t v c m h) ∙ p ∙ tag_old t v c m h k x y)))

      different : (n k : ℕ) → n ≢ 0 → k ≢ 0 → Living n → Living k → at (split t v m).tag n ≡ at (split t v m).tag k → n ≡ k
      different n k f g (inl e) (inl d) p = e ∙ sym d
      different n k f g (inl e) (inr (x, y, a)) p = absurd (clash k g x y a (ap (at (split t v m).tag) (sym e) ∙ p))
      different n k f g (inr (x, y, a)) (inl e) p = absurd (clash n f x y a (ap (at (split t v m).tag) (sym e) ∙ sym p))
      different n k f g (inr (x, y, a)) (inr (x', y', b)) p = h.rules.tagged.different n k (f, a) (g, b) (sym (tag_old t v c m h n x y) ∙ p ∙ tag_old t v c m h k x' y')

  split_branching : Branching (split t v m)
  split_branching = record {
    root = λ a b x y. h.rules.branching.root a b (child_back t v c m h 0 a (off a x) x) (child_back t v c m h 0 b (off b y) y);
    ghost = each t v c m h (λ n. Ghost (split t v m) n → (a : ℕ) × (b : ℕ) × (a ≢ b) × Child (split t v m) n a × Child (split t v m) n b)
        (λ g. (c, m, used_apart t v c m h c h.child.1, child_old t v c m h v c h.child, child_m t v c m h))
        (λ g. absurd (omega (arith, state_m t v c m h, g.1)))
        (λ n p q g.
        let (a, b, d, x, y) = h.rules.branching.ghost n (g.0, sym (state_old t v c m h n p q) ∙ g.1) in
        (a, b, d, child_old t v c m h n a x, child_old t v c m h n b y));
  }
    where
      off : (k : ℕ) → Child (split t v m) 0 k → k ≢ m
      off k x e = h.snapshot.0 (sym (up_m t v c m h) ∙ ap (up (split t v m)) (sym e) ∙ x.2)

  pub split_rules : TreeSound (split t v m)
  split_rules = record { states = split_states; linked = split_linked; tagged = split_tagged; branching = split_branching }
