-- A snapshot of a living version leaves sound records; the new version reads as its source, and the others as before. Assumes nothing.
--
-- The new node m stands
--
--   under v, a snapshot        under 0, which has no child        under 0, and 0's child c under m
--
--         v                              0                                 0
--        / \                             |                                 |
--       ..  m                            m                                 m
--                                                                          |
--                                                                          c
use Rattle.std.specs.Prelude.{◌≡◌, ◌≢◌, false, ℕ, ◌<◌, length, set}
use Rattle.std.proofs.Common.{sym, ◌∙◌, ap, inl, inr, arith, length-set}
use Rattle.std.proofs.Math.Logic.{by_cases}
use Rattle.std.proofs.Math.Option.{some}
use Rattle.std.proofs.Math.Decide.{ℕ_discrete}
use Rattle.trees.specs.declared.Tree.{Tree}
use Rattle.records.specs.Records.{lives, Records}
use Rattle.trees.specs.Trees.{up, Child, snapshots, version}
use Rattle.records.specs.Sound.{Sound}
use Rattle.tree.specs.Nodes.{version_alive}
use Rattle.edits.specs.Edits.{grown, hung, with_tree, Whole, EmptyNode, Copied}
use Rattle.edits.proofs.Solve.{at_same, at_other, origin_version}
use Rattle.edits.proofs.Grow.{Grows, new_above, root_old, used_old, child_back}
use Rattle.edits.proofs.GrowCopied.{grow_copied}

module _ (z : Records) (w : Whole z.tree) (s : Sound z) (m g : ℕ) (e : EmptyNode z.tree m) (positive : 0 < g) (fresh : lives z g ≡ false) (room : snapshots z.tree < 64) where
  leaf_grows : (p : ℕ) → Grows z.tree (grown z.tree m g p) m g p
  leaf_grows p =
      let l : m < length z.tree.parent = omega (arith, e.0, w.parent) in
      let i : m < length z.tree.state = omega (arith, e.0, w.state) in
      let k : m < length z.tree.tag = omega (arith, e.0, w.tag) in
      record {
        empty = e;
        state = at_same z.tree.state m 1 i;
        tag = at_same z.tree.tag m g k;
        parent = at_same z.tree.parent m p l;
        states = at_other z.tree.state m 1 i;
        tags = at_other z.tree.tag m g k;
        parents = λ n h. inl (at_other z.tree.parent m p l n h);
      }

  -- node 0's child c is hung under m
  module _ (c : ℕ) (h : Child z.tree 0 c) where
    child_fits : c < length (set z.tree.parent m 0)
    child_fits = rw length-set (omega (arith, h.1.0, w.parent))

    hung_parent : up (hung (grown z.tree m g 0) c m) c ≡ m
    hung_parent = at_same (set z.tree.parent m 0) c m child_fits

    inner_grows : Grows z.tree (hung (grown z.tree m g 0) c m) m g 0
    inner_grows =
        let x = leaf_grows 0 in
        let other = at_other (set z.tree.parent m 0) c m child_fits in
        record {
          empty = e;
          state = x.state;
          tag = x.tag;
          parent = other m (λ y. used_old x c h.1 (sym y)) ∙ x.parent;
          states = x.states;
          tags = x.tags;
          parents = λ n y. by_cases (ℕ_discrete n c)
              (λ d. inr (rw d (h, hung_parent)))
              (λ d. inl (other n d ∙ at_other z.tree.parent m 0 (omega (arith, e.0, w.parent)) n y));
        }

  pub copy_snapshot : (v u : ℕ) → version z.tree u ≡ some v → v ≢ 0 → Copied z (with_tree z (grown z.tree m g v)) u g
  copy_snapshot v u h k = grow_copied z s (grown z.tree m g v) m g v x (version_alive z.tree u v h).0 positive fresh room
      (λ c d i j. s.branching.root c d (old c i) (old d j)) u h
    where
      x : Grows z.tree (grown z.tree m g v) m g v
      x = leaf_grows v

      old : (c : ℕ) → Child (grown z.tree m g v) 0 c → Child z.tree 0 c
      old c i = child_back x 0 c (root_old x s.states) (λ y. k (sym x.parent ∙ ap (up (grown z.tree m g v)) (sym y) ∙ i.2)) i

  -- under node 0, where no old child stays
  copy_zero : (t' : Tree) → Grows z.tree t' m g 0 → ((c : ℕ) → Child z.tree 0 c → Child t' 0 c → ⊥) → Copied z (with_tree z t') 0 g
  copy_zero t' x gone = grow_copied z s t' m g 0 x (omega arith, s.states.root.0) positive fresh room (λ c d i j. new c i ∙ sym (new d j)) 0 (origin_version z s)
    where
      new : (c : ℕ) → Child t' 0 c → c ≡ m
      new c i = by_cases (ℕ_discrete c m) (λ y. y) (λ y. absurd (gone c (child_back x 0 c (root_old x s.states) y i) i))

  pub copy_first : ((c : ℕ) → Child z.tree 0 c → ⊥) → Copied z (with_tree z (grown z.tree m g 0)) 0 g
  copy_first h = copy_zero (grown z.tree m g 0) (leaf_grows 0) (λ c i j. h c i)

  pub copy_origin : (c : ℕ) → Child z.tree 0 c → Copied z (with_tree z (hung (grown z.tree m g 0) c m)) 0 g
  copy_origin c h = copy_zero (hung (grown z.tree m g 0) c m) (inner_grows c h) (λ d i j.
      new_above (leaf_grows 0) s.states (sym (hung_parent c h) ∙ ap (up (hung (grown z.tree m g 0) c m)) (s.branching.root c d h i) ∙ j.2))
