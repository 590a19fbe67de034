-- A snapshot's node v becomes a ghost: the tree, node by node, and its rules 2 to 4. Assumes nothing.
use Rattle.std.specs.Prelude.{◌≡◌, refl, ◌≢◌, Bool, true, false, ℕ, zero, suc, ◌≤◌, ◌<◌}
use Rattle.std.proofs.Common.{sym, ◌∙◌, ap, arith, length-set}
use Rattle.std.proofs.Math.Logic.{by_cases}
use Rattle.std.proofs.Math.Decide.{ℕ_discrete}
use Rattle.basics.specs.Decide.{at}
use Rattle.basics.specs.Count.{one, count}
use Rattle.basics.proofs.CountLaws.{sum_mono, one_yes, one_no, one_most}
use Rattle.trees.specs.declared.Tree.{Tree}
use Rattle.trees.specs.Trees.{Table, InUse, Alive, Ghost, Snapshot, up, Child, is_snapshot, snapshots}
use Rattle.trees.specs.Reading.{climb, place}
use Rattle.trees.specs.Rules.{States, Linked, Tagged}
use Rattle.tree.specs.Nodes.{snapshot_yes, snapshot_of}
use Rattle.edits.specs.Edits.{Whole}
use Rattle.edits.proofs.Solve.{at_same, at_other}
use Rattle.edits.proofs.WriteReaders.{alive_used}
use Rattle.removal.specs.Removal.{ghosted}

-- where fewer pass, fewer are counted
count_fewer : (p q : ℕ → Bool) (n : ℕ) → ((k : ℕ) → k < n → p k ≡ true → q k ≡ true) → count p n ≤ count q n
unfolding count
count_fewer p q n h = sum_mono (λ k. one (p k)) (λ k. one (q k)) n (λ k l. go k (p k) refl (h k l))
  where
    go : (k : ℕ) (b : Bool) → p k ≡ b → (p k ≡ true → q k ≡ true) → one (p k) ≤ one (q k)
    go k true e f = omega (arith, one_most (p k), one_yes (f e))
    go k false e f = omega (arith, one_no e)

-- what a node reads depends on the parents and the table alone, and they stay
climb_same : (t : Tree) (v : ℕ) (e : Table) (r k n : ℕ) → climb (ghosted t v) e r k n ≡ climb t e r k n
unfolding climb
climb_same t v e r zero n = refl
climb_same t v e r (suc k) n = rw (climb_same t v e r k (up t n))

pub place_same : (t : Tree) (v : ℕ) (e : Table) (n r : ℕ) → place (ghosted t v) e n r ≡ place t e n r
unfolding place
place_same t v e n r = climb_same t v e r 128 n

pub whole_same : (t : Tree) (v : ℕ) → Whole t → Whole (ghosted t v)
whole_same t v w = record { state = length-set t.state v 2 ∙ w.state; tag = length-set t.tag v 0 ∙ w.tag; parent = w.parent }

module _ (t : Tree) (w : Whole t) (v : ℕ) (a : Snapshot t v) where
  -- the two arrays that change

  state_v : at (ghosted t v).state v ≡ 2
  state_v = at_same t.state v 2 (omega (arith, w.state, a.1.0))

  state_old : (n : ℕ) → n ≢ v → at (ghosted t v).state n ≡ at t.state n
  state_old n d = at_other t.state v 2 (omega (arith, w.state, a.1.0)) n d

  tag_v : at (ghosted t v).tag v ≡ 0
  tag_v = at_same t.tag v 0 (omega (arith, w.tag, a.1.0))

  pub tag_old : (n : ℕ) → n ≢ v → at (ghosted t v).tag n ≡ at t.tag n
  tag_old n d = at_other t.tag v 0 (omega (arith, w.tag, a.1.0)) n d

  -- the same nodes are in use and the same are children; the living are the old ones but v, the ghosts the old ones and v

  pub used_kept : (n : ℕ) → InUse t n → InUse (ghosted t v) n
  used_kept n u = (
    u.0,
    λ e. by_cases (ℕ_discrete n v)
        (λ x. omega (arith, ap (at (ghosted t v).state) x, state_v))
        (λ x. u.1 (sym (state_old n x) ∙ e)),
  )

  used_back : (n : ℕ) → InUse (ghosted t v) n → InUse t n
  used_back n u = by_cases (ℕ_discrete n v) (λ x. rw x (alive_used t v a.1)) (λ x. (u.0, λ e. u.1 (state_old n x ∙ e)))

  pub alive_kept : (n : ℕ) → n ≢ v → Alive t n → Alive (ghosted t v) n
  alive_kept n d b = (b.0, state_old n d ∙ b.1)

  pub alive_other : (n : ℕ) → Alive (ghosted t v) n → n ≢ v
  alive_other n b x = omega (arith, ap (at (ghosted t v).state) x, state_v, b.1)

  pub alive_back : (n : ℕ) → Alive (ghosted t v) n → Alive t n
  alive_back n b = (b.0, sym (state_old n (alive_other n b)) ∙ b.1)

  snapshot_back : (n : ℕ) → Snapshot (ghosted t v) n → Snapshot t n
  snapshot_back n b = (b.0, alive_back n b.1)

  pub ghost_back : (n : ℕ) → n ≢ v → Ghost (ghosted t v) n → Ghost t n
  ghost_back n d g = (g.0, sym (state_old n d) ∙ g.1)

  pub child_kept : (p c : ℕ) → Child t p c → Child (ghosted t v) p c
  child_kept p c x = (x.0, used_kept c x.1, x.2)

  pub child_back : (p c : ℕ) → Child (ghosted t v) p c → Child t p c
  child_back p c x = (x.0, used_back c x.1, x.2)

  -- Rules 2 to 4

  pub ghosted_states : States t → States (ghosted t v)
  ghosted_states s =
      let o : 0 ≢ v = λ e. a.0 (sym e) in
      record {
        kinds = λ n l. by_cases (ℕ_discrete n v)
            (λ x. rw x (omega (arith, state_v)))
            (λ x. omega (arith, state_old n x, s.kinds n l));
        root = (state_old 0 o ∙ s.root.0, tag_old 0 o ∙ s.root.1, s.root.2);
        empty = λ n l e.
            let d : n ≢ v = λ x. omega (arith, ap (at (ghosted t v).state) x, state_v) in
            let (f, g) = s.empty n l (sym (state_old n d) ∙ e) in
            (tag_old n d ∙ f, g);
        ghost = λ n g. by_cases (ℕ_discrete n v) (λ x. rw x tag_v) (λ x. tag_old n x ∙ s.ghost n (ghost_back n x g));
      }

  pub ghosted_linked : Linked t → Linked (ghosted t v)
  ghosted_linked l = record {
    parent = λ n f u. used_kept (up t n) (l.parent n f (used_back n u));
    reaches = λ n f u. l.reaches n f (used_back n u);
  }

  fewer_snapshots : snapshots (ghosted t v) ≤ snapshots t
  unfolding snapshots
  fewer_snapshots = count_fewer (is_snapshot (ghosted t v)) (is_snapshot t) 128
      (λ k l e. snapshot_yes t k (snapshot_back k (snapshot_of (ghosted t v) k l e)))

  pub ghosted_tagged : Tagged t → Tagged (ghosted t v)
  ghosted_tagged g = record {
    above = λ n b. rw (tag_old n (alive_other n b.1)) (g.above n (snapshot_back n b));
    different = λ n m b c e. g.different n m (snapshot_back n b) (snapshot_back m c)
        (sym (tag_old n (alive_other n b.1)) ∙ e ∙ tag_old m (alive_other m c.1));
    most = omega (arith, fewer_snapshots, g.most);
  }
