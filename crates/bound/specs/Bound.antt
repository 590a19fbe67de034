-- Nodes never run out (SPEC 4.8): children are counted twice, by their parents and by themselves. Assumes nothing.
use Rattle.std.specs.Prelude.{◌≡◌, refl, ◌≢◌, Bool, true, false, not, ◌&&◌, ℕ, zero, suc, ◌+◌, ◌*◌, ◌≤◌, ◌<◌, eqb}
use Rattle.std.proofs.Math.Path.{ap}
use Rattle.std.proofs.Math.Logic.{by_cases}
use Rattle.std.proofs.Math.Decide.{ℕ_discrete}
use native.Mathlib.Omega.{arith}
use borrow.Author.Tests.{eq-eqb, ne_eqb, eqb-true}
use Rattle.basics.specs.Decide.{at, and_yes, not_yes}
use Rattle.basics.specs.Count.{sum, one, count}
use Rattle.basics.proofs.CountLaws.{sum_cong, sum_mono, sum_add, sum_zero, sum_ones, sum_swap, one_yes, one_no, one_most, count_two, count_some, count_has, count_eqb}
use Rattle.trees.specs.declared.Tree.{Tree}
use Rattle.trees.specs.Trees.{InUse, Snapshot, up, Child, is_used, nodes_used, is_child, children, is_snapshot, snapshots}
use Rattle.trees.specs.Rules.{States, Linked, Branching}
use Rattle.tree.specs.Nodes.{used_yes, used_no, child_yes, snapshot_of, two_children}
use Rattle.tree.specs.Going.{reaches_ind}

-- 1 for equal numbers, else 0
is_yes : {a b : ℕ} → a ≡ b → one (eqb a b) ≡ 1
is_yes {a} {b} e = one_yes (eq-eqb a b e)

is_no : {a b : ℕ} → a ≢ b → one (eqb a b) ≡ 0
is_no {a} {b} e = one_no (ne_eqb a b e)

-- a state other than 0 is 1 or 2
three : (x : ℕ) → x ≤ 2 → one (not (eqb x 0)) ≡ one (eqb x 1) + one (eqb x 2)
unfolding one
three zero h = refl
three (suc zero) h = refl
three (suc (suc zero)) h = refl
three (suc (suc (suc x))) h = absurd (omega arith)

module _ (t : Tree) where
  unfoldable is_ghost : ℕ → Bool
  is_ghost n = eqb (at t.state n) 2

  -- a living node with a child
  unfoldable is_parent : ℕ → Bool
  is_parent n = not (eqb (children t n) 0) && eqb (at t.state n) 1

  parent_yes : (n c : ℕ) → at t.state n ≡ 1 → Child t n c → is_parent n ≡ true
  unfolding is_parent children
  parent_yes n c a h = and_yes (not_yes (ne_eqb (children t n) 0 (omega (arith, count_has (is_child t n) 128 c h.1.0 (child_yes t n c h))))) (eq-eqb _ 1 a)

module _ (t : Tree) (s : States t) (l : Linked t) (b : Branching t) where
  -- a node in use is one of three: node 0, a snapshot, a ghost
  kind : (n : ℕ) → n < 128 → one (is_used t n) ≡ one (eqb 0 n) + (one (is_snapshot t n) + one (is_ghost t n))
  unfolding is_used is_snapshot is_ghost one
  kind n h = by_cases (ℕ_discrete 0 n) (λ e. rw (← e, s.root.0))
      (λ e. rw (ne_eqb 0 n e, ne_eqb n 0 (omega arith)) (omega (arith, three (at t.state n) (s.kinds n h))))

  -- a node in use other than 0 is the child of one node
  parents : (c : ℕ) → c < 128 → sum (λ p. one (is_child t p c)) 128 + one (eqb 0 c) ≡ one (is_used t c)
  unfolding is_child count
  parents c h = by_cases (ℕ_discrete 0 c)
      (λ e. omega (arith, is_yes e, one_yes (used_yes t c (omega (arith, ap (at t.state) e, s.root.0))), none (λ p. rw (← e))))
      (λ e. let off = ne_eqb c 0 (omega arith) in by_cases (ℕ_discrete (at t.state c) 0)
      (λ u. omega (arith, is_no e, one_no (used_no t c u), none (λ p. rw (off, used_no t c u))))
      (λ u. omega (
        arith,
        is_no e,
        one_yes (used_yes t c u),
        sum_cong (λ p. one (is_child t p c)) (λ p. one (eqb (up t c) p)) 128 (λ p k. ap one (rw (off, used_yes t c u))),
        count_eqb (up t c) 128 (l.parent c (omega arith) (h, u)).0,
      )))
    where
      none : ((p : ℕ) → is_child t p c ≡ false) → sum (λ p. one (is_child t p c)) 128 ≡ 0
      none f = sum_zero (λ p. one (is_child t p c)) 128 (λ p k. one_no (f p))

  -- so the nodes in use are node 0 and everyone's children
  counted : sum (children t) 128 + 1 ≡ nodes_used t
  unfolding children nodes_used count
  counted = omega (
    arith,
    sum_swap (λ p c. one (is_child t p c)) 128 128,
    sum_add (λ c. sum (λ p. one (is_child t p c)) 128) (λ c. one (eqb 0 c)) 128,
    sum_cong (λ c. sum (λ p. one (is_child t p c)) 128 + one (eqb 0 c)) (λ c. one (is_used t c)) 128 parents,
    count_eqb 0 128 (omega arith),
  )

  -- and they are node 0, the snapshots and the ghosts
  kinds : nodes_used t ≡ 1 + (snapshots t + count (is_ghost t) 128)
  unfolding nodes_used snapshots count
  kinds = omega (
    arith,
    sum_cong (λ n. one (is_used t n)) (λ n. one (eqb 0 n) + (one (is_snapshot t n) + one (is_ghost t n))) 128 kind,
    sum_add (λ n. one (eqb 0 n)) (λ n. one (is_snapshot t n) + one (is_ghost t n)) 128,
    sum_add (λ n. one (is_snapshot t n)) (λ n. one (is_ghost t n)) 128,
    count_eqb 0 128 (omega arith),
  )

  -- a ghost has at least two children, a living parent at least one
  least : (n : ℕ) → n < 128 → (one (is_ghost t n) + one (is_ghost t n)) + one (is_parent t n) ≤ children t n
  unfolding is_ghost is_parent
  least n h = by_cases (ℕ_discrete (at t.state n) 2)
      (λ g. let two = (two_children t n).1 (b.ghost n (h, g)) in omega (arith, is_yes g, one_no {b = is_parent t n} (rw (ne_eqb (children t n) 0 (omega arith), g))))
      (λ g. by_cases (ℕ_discrete (children t n) 0)
      (λ e. omega (arith, is_no g, one_no {b = is_parent t n} (rw (eq-eqb _ 0 e))))
      (λ e. omega (arith, is_no g, one_most (is_parent t n))))

  -- each living parent, node 0 among them, takes one node from the bound
  spare : nodes_used t + count (is_parent t) 128 ≤ 2 * snapshots t + 1
  unfolding count
  spare = omega (
    arith,
    counted,
    kinds,
    sum_mono (λ n. (one (is_ghost t n) + one (is_ghost t n)) + one (is_parent t n)) (children t) 128 least,
    sum_add (λ n. one (is_ghost t n) + one (is_ghost t n)) (λ n. one (is_parent t n)) 128,
    sum_add (λ n. one (is_ghost t n)) (λ n. one (is_ghost t n)) 128,
  )

  -- going up from another node, the last node before node 0 is a child of node 0
  root_parent : (n : ℕ) → n ≢ 0 → InUse t n → is_parent t 0 ≡ true
  root_parent n h u = reaches_ind (up t) (λ n. n ≢ 0 → InUse t n → is_parent t 0 ≡ true)
      (λ h. absurd (h refl))
      (λ n k f h u. by_cases (ℕ_discrete (up t n) 0) (λ z. parent_yes t 0 n s.root.0 (h, u, z)) (λ z. f z (l.parent n h u)))
      n (l.reaches n h u) h u

  -- with or without a snapshot there is room for one node more than twice their number
  pub node_room : nodes_used t ≤ 2 * snapshots t + 1
  node_room = omega (arith, spare)

  -- with S snapshots, S at least 1, at most 2 × S nodes are in use
  pub node_bound : 1 ≤ snapshots t → nodes_used t ≤ 2 * snapshots t
  unfolding snapshots
  node_bound h =
      let (n, k, e) = count_some (is_snapshot t) 128 h in
      let v = snapshot_of t n k e in
      omega (arith, spare, count_has (is_parent t) 128 0 (omega arith) (root_parent n v.0 (k, omega arith)))

  -- and one node fewer where a living snapshot has a child
  pub node_bound_child : (n c : ℕ) → Snapshot t n → Child t n c → nodes_used t + 1 ≤ 2 * snapshots t
  node_bound_child n c v k =
      let root = root_parent n v.0 (v.1.0, omega arith) in
      omega (arith, spare, count_two (is_parent t) 128 0 n (omega arith) v.1.0 (omega arith) root (parent_yes t n c v.1.1 k))

one_not : (b : Bool) → one (not b) + one b ≡ 1
unfolding one
one_not true = refl
one_not false = refl

-- where fewer than 128 nodes are in use, one is empty
pub empty_node_lem : (t : Tree) → nodes_used t < 128 → (n : ℕ) × (n < 128) × (at t.state n ≡ 0)
unfolding nodes_used is_used count
empty_node_lem t h =
    let test : ℕ → Bool = λ n. eqb (at t.state n) 0 in
    let (n, l, e) = count_some test 128 (omega (
      arith,
      sum_add (λ n. one (not (test n))) (λ n. one (test n)) 128,
      sum_ones (λ n. one (not (test n)) + one (test n)) 128 (λ n l. one_not (test n)),
    )) in
    (n, l, eqb-true _ 0 e)
