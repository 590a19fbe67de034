-- The records that a write of a shared row leaves: a free place is found, no living row is read from it, and it is given to the row. Assumes nothing.
use Rattle.std.specs.Prelude.{◌≡◌, ◌≢◌, true, List, ℕ, ◌+◌, ◌<◌, length, set}
use Rattle.std.proofs.Math.Path.{refl}
use Rattle.std.proofs.Common.{sym, ◌∙◌, ap, inl, inr, arith, length-set}
use Rattle.std.proofs.Math.Logic.{by_cases}
use Rattle.std.proofs.Math.Option.{Option, none, some}
use Rattle.std.proofs.Math.Decide.{ℕ_discrete}
use Rattle.basics.specs.Decide.{at, holds}
use Rattle.trees.specs.declared.Tree.{Tree}
use Rattle.records.specs.Records.{Records, records_of, table, lives, tag_place}
use Rattle.trees.specs.Trees.{InUse, Alive, up, Child, used, PlaceUsed, version}
use Rattle.trees.specs.Reading.{place}
use Rattle.records.specs.Sound.{Sound}
use Rattle.tree.specs.Going.{reaches_ind}
use Rattle.tree.specs.Nodes.{version_alive}
use Rattle.bound.specs.Bound.{node_bound_child}
use Rattle.reading.specs.Used.{used_read}
use Rattle.reading.specs.Reads.{place_root}
use Rattle.edits.specs.Edits.{with_tree, Whole, Parted, Moved, Saved, FreeEntry}
use Rattle.edits.proofs.Solve.{lives_node, version_node, version_lives, origin_version, tag_place_lem}
use Rattle.edits.proofs.Writes.{part_node, own_row, save_row}
use Rattle.nodes.specs.Nodes.{empty_node, first_child, empty_of, empty_found, child_some, child_none}
use Rattle.sharing.specs.Sharing.{free_entry, SharedAt, shared_at}
use Rattle.sharing.specs.Laws.{full_used, shared_decides}
use Rattle.owning.specs.Owning.{parted_tree', parted_node', parted_tree, parted_node}
use Rattle.intact.specs.Tags.{origin_tag, snapshot_tag}
use Rattle.wrote.specs.WroteAllowed.{Allowed}

module _ (z : Records) (s : Sound z) where
  -- Free places

  pub free_found : used (table z) < z.size.places → (i : ℕ) × (free_entry z.node ≡ some i)
  free_found h = go (free_entry z.node) refl
    where
      go : (o : Option ℕ) → free_entry z.node ≡ o → (i : ℕ) × (free_entry z.node ≡ some i)
      go none e = absurd (omega (arith, (full_used (table z)).0 e, s.measured.nodes, s.measured.within.places.0))
      go (some i) e = (i, e)

  pub free_low : (i : ℕ) → i < length z.node → z.size.rows + i < z.size.places
  free_low i l = omega (arith, s.measured.nodes)

  pub free_unread : (i n r : ℕ) → at z.node i ≡ 0 → Alive z.tree n → r < z.size.rows → place z.tree (table z) n r ≢ z.size.rows + i
  free_unread i n r free a l = λ e. go ((used_read z s (z.size.rows + i)).1 (n, r, a, l, e))
    where
      go : PlaceUsed (table z) (z.size.rows + i) → ⊥
      go (inl h) = omega arith
      go (inr (j, h, x, e)) = let k : j ≡ i = omega arith in x (ap (at z.node) k ∙ free)

  -- a version that shares the row
  pub sharer : (tag v r : ℕ) → version z.tree tag ≡ some v → SharedAt z.tree (table z) v r → (u : ℕ) × (lives z u ≡ true) × (u ≢ tag) × (tag_place z u r ≡ tag_place z tag r)
  sharer tag v r h (n, a, d, p) =
      let u = at z.tree.tag n in
      let k = version_node z.tree s.states s.tagged n u a refl in
      (u, version_lives z u n k, (λ x. let y : version z.tree tag ≡ some n = rw x at k in d (cc)), tag_place_lem z u n r k ∙ p ∙ sym (tag_place_lem z tag v r h))

  -- A snapshot's row

  parted : Whole z.tree → (tag v : ℕ) → version z.tree tag ≡ some v → v ≢ 0 → Parted z (with_tree z (parted_tree z.tree v)) tag (parted_node z.tree v)
  unfolding parted_tree parted_node
  parted w tag v h off = go (first_child z.tree v) refl
    where
      room : (c : ℕ) → Child z.tree v c → (m : ℕ) × (empty_node z.tree ≡ some m)
      room c k = empty_found z.tree (omega (arith, node_bound_child z.tree s.states s.linked s.branching v c (off, (version_alive z.tree tag v h).0) k, s.tagged.most))

      go : (o : Option ℕ) → first_child z.tree v ≡ o → Parted z (with_tree z (parted_tree' z.tree v o (empty_node z.tree))) tag (parted_node' v o (empty_node z.tree))
      go none e = record { sound = s; living = λ u. refl; same = λ u r l. refl; stands = h; leaf = child_none z.tree v e }
      go (some c) e =
          let k = child_some z.tree v c e in
          let (m, f) = room c k in
          rw f (part_node z w s tag v c m h off k (empty_of z.tree m f))

  -- the version goes to a leaf of its own if it has a child, and the leaf gets the free place
  own_moved : Whole z.tree → (tag v r i u : ℕ) → version z.tree tag ≡ some v → v ≢ 0 → r < z.size.rows → lives z u ≡ true → u ≢ tag → tag_place z u r ≡ tag_place z tag r → FreeEntry z i
      → Moved z (records_of z.size (parted_tree z.tree v) (set z.node i (parted_node z.tree v)) (set z.row i r)) tag r (z.size.rows + i)
  own_moved w tag v r i u h off low live d same free =
      let p = parted w tag v h off in
      let o = own_row (with_tree z (parted_tree z.tree v)) p.sound tag (parted_node z.tree v) r i u p.stands
      (λ e. snapshot_tag z s tag v h off (origin_tag (with_tree z (parted_tree z.tree v)) p.sound tag (p.stands ∙ ap some e)))
      p.leaf low (p.living u ∙ live) d (p.same u r live ∙ same ∙ sym (p.same tag r (version_lives z tag v h))) free in
      record {
        sound = o.sound;
        living = λ x. o.living x ∙ p.living x;
        here = o.here;
        elsewhere = λ x k l f. o.elsewhere x k (p.living x ∙ l) f ∙ p.same x k l;
      }

  -- The origin's row

  -- where there is a snapshot, node 0 has a child
  root_child : (u : ℕ) → lives z u ≡ true → u ≢ 0 → (c : ℕ) × (first_child z.tree 0 ≡ some c)
  root_child u l d =
      let (n, h, a, g) = lives_node z u l in
      let off : n ≢ 0 = λ e. d (sym g ∙ ap (at z.tree.tag) e ∙ s.states.root.1) in
      let in_use : InUse z.tree n = (a.0, omega (arith, a.1)) in
      let (c, k) = reaches_ind (up z.tree) (λ x. x ≢ 0 → InUse z.tree x → (c : ℕ) × Child z.tree 0 c) (λ x. absurd (x refl)) next n (s.linked.reaches n off in_use) off in_use in
      go c k (first_child z.tree 0) refl
    where
      next : (n : ℕ) → n ≢ 0 → (up z.tree n ≢ 0 → InUse z.tree (up z.tree n) → (c : ℕ) × Child z.tree 0 c) → n ≢ 0 → InUse z.tree n → (c : ℕ) × Child z.tree 0 c
      next n off f x k = by_cases (ℕ_discrete (up z.tree n) 0) (λ e. (n, (off, k, e))) (λ e. f e (s.linked.parent n off k))

      go : (c : ℕ) → Child z.tree 0 c → (o : Option ℕ) → first_child z.tree 0 ≡ o → (c : ℕ) × (first_child z.tree 0 ≡ some c)
      go c k none e = absurd (child_none z.tree 0 e c k)
      go c k (some b) e = (b, e)

  -- What an accepted write of a shared row gives

  module _ (tag r v : ℕ) (bs : List ℕ) (a : Allowed z tag r bs v) (e : shared_at z.tree (table z) v r ≡ true) (i : ℕ) (f : FreeEntry z i) where
    shared : (u : ℕ) × (lives z u ≡ true) × (u ≢ tag) × (tag_place z u r ≡ tag_place z tag r)
    shared = sharer tag v r a.stands (holds _ (shared_decides z.tree (table z) v r) e)

    pub row_moved : Whole z.tree → v ≢ 0 → Moved z (records_of z.size (parted_tree z.tree v) (set z.node i (parted_node z.tree v)) (set z.row i r)) tag r (z.size.rows + i)
    row_moved w off = let (u, l, d, p) = shared in own_moved w tag v r i u a.stands off a.low l d p f

    pub row_saved : v ≡ 0 → (c : ℕ) × (first_child z.tree 0 ≡ some c) × Saved z (records_of z.size z.tree (set z.node i c) (set z.row i r)) r (z.size.rows + i)
    row_saved h =
        let g = origin_tag z s tag (a.stands ∙ ap some h) in
        let (u, l, d, p) = shared in
        let off : u ≢ 0 = λ x. d (x ∙ sym g) in
        let (c, k) = root_child u l off in
        let home : tag_place z tag r ≡ r = rw g (tag_place_lem z 0 0 r (origin_version z s) ∙ place_root z.tree s.linked (table z) r) in
        (c, k, save_row z s c r i u (child_some z.tree 0 c k) a.low l off (p ∙ home) f)

-- the tree's arrays stay whole
pub parted_whole : (t : Tree) (v : ℕ) → Whole t → Whole (parted_tree t v)
unfolding parted_tree
parted_whole t v w = go (first_child t v) (empty_node t)
  where
    go : (o p : Option ℕ) → Whole (parted_tree' t v o p)
    go none p = w
    go (some c) none = w
    go (some c) (some m) = record {
      state = length-set (set t.state v 2) m 1 ∙ length-set t.state v 2 ∙ w.state;
      tag = length-set (set t.tag v 0) m (at t.tag v) ∙ length-set t.tag v 0 ∙ w.tag;
      parent = length-set t.parent m v ∙ w.parent;
    }
