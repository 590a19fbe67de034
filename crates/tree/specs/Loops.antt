-- What the check's loops keep: a search for a tag, a count of snapshots, a climb. Assumes nothing.
use Rattle.std.specs.Prelude.{◌≡◌, ◌≢◌, not, ℕ, ◌+◌, ◌≤◌, ◌<◌, eqb}
use Rattle.std.proofs.Math.Path.{refl}
use Rattle.std.proofs.Common.{sym, ◌∙◌, ap, arith, below_more, eqb-true}
use Rattle.std.proofs.Math.Logic.{by_cases}
use Rattle.std.proofs.Math.Option.{none, some}
use Rattle.std.proofs.Math.Decide.{ℕ_discrete}
use Rattle.basics.specs.Decide.{at, and_no}
use Rattle.basics.specs.Count.{count, first}
use Rattle.basics.proofs.CountLaws.{count_none, count_no, first_yes, first_no, first_more, first_nothing}
use Rattle.trees.specs.declared.Tree.{Tree}
use Rattle.trees.specs.Trees.{InUse, up, ancestor, Reaches, is_snapshot, is_version, version}
use Rattle.trees.specs.Rules.{Linked}
use Rattle.tree.specs.Going.{ancestor_zero, ancestor_next, reaches_root, near}
use Rattle.tree.specs.Nodes.{version_yes, version_no}
use Rattle.tree.specs.Rules.{Parents, Climbs}

module _ (t : Tree) where
  -- the search for a tag
  pub version_here : (g n : ℕ) → n < 128 → first (is_version t g) n ≡ none → at t.state n ≡ 1 → at t.tag n ≡ g → version t g ≡ some n
  unfolding version
  version_here g n l e s h = first_more (is_version t g) (n + 1) 128 n (first_yes (is_version t g) n e (version_yes t g n s h)) (omega arith)

  pub version_past : (g n : ℕ) → first (is_version t g) n ≡ none → (at t.state n ≡ 1 → at t.tag n ≡ g → ⊥) → first (is_version t g) (n + 1) ≡ none
  version_past g n e h = first_no (is_version t g) n e (version_no t g n h)

  -- a tag that no node has
  pub version_none : (g : ℕ) → ((n : ℕ) → n < 128 → at t.tag n ≢ g) → version t g ≡ none
  unfolding version
  version_none g h = first_nothing (is_version t g) 128 (λ n l. version_no t g n (λ a e. h n l e))

  -- node 0 is no snapshot
  pub snapshots_first : count (is_snapshot t) 1 ≡ 0
  unfolding is_snapshot
  snapshots_first = count_no (is_snapshot t) 0 refl ∙ count_none (is_snapshot t)

  pub snapshot_past : (n : ℕ) → at t.state n ≢ 1 → count (is_snapshot t) (n + 1) ≡ count (is_snapshot t) n
  unfolding is_snapshot
  snapshot_past n h = count_no (is_snapshot t) n (and_no (not (eqb n 0)) (eqb (at t.state n) 1) (λ a b. h (eqb-true _ 1 b)))

  -- a climb from n: the node reached after k steps, none of those before it node 0
  pub record Climbing (n node k : ℕ) : Type 0 where
    pub most : k ≤ 128
    pub where_now : node ≡ ancestor (up t) k n
    pub used : InUse t node
    pub off : (j : ℕ) → j < k → ancestor (up t) j n ≢ 0

  pub climb_start : (n : ℕ) → InUse t n → Climbing n n 0
  climb_start n u = record { most = omega arith; where_now = sym (ancestor_zero (up t) n); used = u; off = λ j l. absurd (omega arith) }

  pub climb_step : (n node k : ℕ) → Parents t → k < 128 → node ≢ 0 → Climbing n node k → Climbing n (up t node) (k + 1)
  climb_step n node k h l e c = record {
    most = omega arith;
    where_now = ap (up t) c.where_now ∙ sym (ancestor_next (up t) k n);
    used = h node c.used.0 e c.used;
    off = below_more _ _ c.off (λ x. e (c.where_now ∙ x));
  }

  pub climb_over : (n node : ℕ) → Climbs t n → Climbing n node 128 → Reaches (up t) n → ⊥
  climb_over n node h c r =
      let (k, l, e) = near (up t) 128 (InUse t) (λ m u. u.0) (λ m e u. h.parents m u.0 e u) n h.used r in
      c.off k l e

  pub linked_reaches : Linked t → (n : ℕ) → InUse t n → Reaches (up t) n
  linked_reaches l n u = by_cases (ℕ_discrete n 0) (λ e. rw e (reaches_root (up t))) (λ e. l.reaches n e u)
