-- What is superfluous after a delete goes, and the living versions read as before: first a ghost without children, then a ghost with one. Assumes nothing.
use Rattle.std.specs.Prelude.{◌≡◌, ◌≢◌, true, ℕ, ◌<◌}
use Rattle.std.proofs.Math.Path.{refl}
use Rattle.std.proofs.Common.{sym, ◌∙◌, ap, arith}
use Rattle.std.proofs.Math.Logic.{by_cases}
use Rattle.std.proofs.Math.Option.{Option, none, some}
use Rattle.std.proofs.Math.Decide.{ℕ_discrete}
use Rattle.basics.specs.Decide.{at}
use Rattle.basics.proofs.CountLaws.{count_has}
use Rattle.trees.specs.declared.Tree.{Tree}
use Rattle.records.specs.Records.{Records, records_of, table, lives, tag_place}
use Rattle.trees.specs.Trees.{Alive, Ghost, up, Child, is_child, children, version}
use Rattle.trees.specs.Reading.{place}
use Rattle.records.specs.Sound.{Sound}
use Rattle.tree.specs.Nodes.{child_yes, one_child as few_children, two_children}
use Rattle.edits.specs.Edits.{with_tree, Whole}
use Rattle.edits.proofs.Solve.{lives_node, tag_place_lem, at_other}
use Rattle.edits.proofs.WriteReaders.{alive_used}
use Rattle.nodes.specs.Nodes.{first_child, child_some, child_none}
use Rattle.removal.specs.Removal.{emptied, relabelled, Nearly}
use Rattle.removal.proofs.Lists.{relabelled_is}
use Rattle.removal.proofs.Below.{ghost_used, ghost_off, ghost_parent}
use Rattle.removal.proofs.PruneTree.{Forked}
use Rattle.removal.proofs.Pruned.{pruned_nearly, pruned_place, pruned_whole, pruned_version}
use Rattle.removal.proofs.NearlySound.{nearly_sound}
use Rattle.removal.proofs.Spliced.{spliced_sound, spliced_place, spliced_whole, spliced_version}
use Rattle.pruning.specs.Pruning.{pruned_tree', pruned_node', pruned_tree, pruned_node, settled_tree, settled_node}
use Rattle.pruning.specs.Laws.{no_ghost, not_one_child, one_child}

-- Records that follow others: the same versions live and read as before

pub record Follows (z z' : Records) : Type 0 where
  pub living : (u : ℕ) → lives z' u ≡ lives z u
  pub same : (u r : ℕ) → lives z u ≡ true → tag_place z' u r ≡ tag_place z u r

follows_self : (z : Records) → Follows z z
follows_self z = record { living = λ u. refl; same = λ u r l. refl }

-- where the versions stand at the same nodes, and these read as before
follows_of : (z z' : Records) → ((u : ℕ) → version z'.tree u ≡ version z.tree u) → ((n r : ℕ) → Alive z.tree n → place z'.tree (table z') n r ≡ place z.tree (table z) n r) → Follows z z'
unfolding lives
follows_of z z' f g = record {
  living = λ u. rw (f u);
  same = λ u r l. let (n, h, a, k) = lives_node z u l in tag_place_lem z' u n r (f u ∙ h) ∙ g n r a ∙ sym (tag_place_lem z u n r h);
}

living_apart : (t : Tree) (x n : ℕ) → Ghost t x → Alive t n → n ≢ x
living_apart t x n g a = λ h. omega (arith, ap (at t.state) h, g.1, a.1)

-- A ghost without children

-- nearly sound but for x, which has a child if it is a ghost
pub record Thinned (z z' : Records) (x : ℕ) : Type 0 where
  pub nearly : Nearly z' x
  pub whole : Whole z'.tree
  pub low : x < 128
  pub child : Ghost z'.tree x → (c : ℕ) × Child z'.tree x c
  pub follows : Follows z z'

module _ (z : Records) (w : Whole z.tree) (v : ℕ) (s : Nearly z v) (g : Ghost z.tree v) where
  -- a parent that is a ghost has another child
  other_child : Ghost (emptied z.tree v) (up z.tree v) → (c : ℕ) × Child (emptied z.tree v) (up z.tree v) c
  other_child h =
      let off : up z.tree v ≢ v = ghost_parent z.tree s.states v g s.linked in
      let (a, b, d, i, j) = s.ghost (up z.tree v) off (h.0, sym (state (up z.tree v) off) ∙ h.1) in
      by_cases (ℕ_discrete a v)
      (λ y. (b, stays b (λ q. d (y ∙ sym q)) j))
      (λ y. (a, stays a y i))
    where
      state : (n : ℕ) → n ≢ v → at (emptied z.tree v).state n ≡ at z.tree.state n
      state n h = at_other z.tree.state v 0 (omega (arith, g.0, w.state)) n h

      stays : (c : ℕ) → c ≢ v → Child z.tree (up z.tree v) c → Child (emptied z.tree v) (up z.tree v) c
      stays c h k = (k.0, (k.1.0, rw (state c h) k.1.1), at_other z.tree.parent v 0 (omega (arith, g.0, w.parent)) c h ∙ k.2)

  pub pruned : Thinned z (with_tree z (pruned_tree z.tree v)) (pruned_node z.tree v)
  unfolding pruned_tree pruned_node
  pruned = go (first_child z.tree v) refl
    where
      go : (o : Option ℕ) → first_child z.tree v ≡ o → Thinned z (with_tree z (pruned_tree' z.tree v o)) (pruned_node' z.tree v o)
      go none e =
          let leaf = child_none z.tree v e in
          record {
            nearly = pruned_nearly z w v s g leaf;
            whole = pruned_whole z w v s g leaf;
            low = (s.linked.parent v (ghost_off z.tree s.states v g) (ghost_used z.tree s.states v g)).0;
            child = other_child;
            follows = follows_of z (with_tree z (emptied z.tree v)) (pruned_version z w v s g leaf)
                (λ n r a. pruned_place z w v s g leaf n r (alive_used z.tree n a) (living_apart z.tree v n g a));
          }
      go (some c) e = record { nearly = s; whole = w; low = g.0; child = λ h. (c, child_some z.tree v c e); follows = follows_self z }

-- A ghost with one child

pub record Settled (z z' : Records) : Type 0 where
  pub sound : Sound z'
  pub whole : Whole z'.tree
  pub follows : Follows z z'

has_children : (t : Tree) (x c : ℕ) → Child t x c → 0 < children t x
unfolding children
has_children t x c k = count_has (is_child t x) 128 c k.1.0 (child_yes t x c k)

module _ (z : Records) (w : Whole z.tree) (x : ℕ) (s : Nearly z x) (low : x < 128) (child : Ghost z.tree x → (c : ℕ) × Child z.tree x c) where
  abbrev after : Records
  after = records_of z.size (settled_tree z.tree x) (settled_node z.tree x z.node) z.row

  -- it is taken out
  settled_out : at z.tree.state x ≡ 2 → children z.tree x ≡ 1 → Settled z after
  settled_out h k = go (first_child z.tree x) refl
    where
      go : (o : Option ℕ) → first_child z.tree x ≡ o → Settled z after
      go none e = let (c, i) = child (low, h) in absurd (child_none z.tree x e c i)
      go (some d) e =
          let i = child_some z.tree x d e in
          let only : (c : ℕ) → Child z.tree x c → c ≡ d = λ c j. (few_children z.tree x).0 (omega arith) c d j i in
          let l = relabelled_is z.node x d in
          let (p, q) = one_child z.tree x z.node h k d e in
          rw (p, q) (record {
            sound = spliced_sound z w x d s (low, h) i only (relabelled x d z.node) l;
            whole = spliced_whole z w x d s (low, h) i only (relabelled x d z.node) l;
            follows = follows_of z _ (spliced_version z w x d s (low, h) i only (relabelled x d z.node) l)
                (λ n r a. spliced_place z w x d s (low, h) i only (relabelled x d z.node) l n r (alive_used z.tree n a) (living_apart z.tree x n (low, h) a));
          })

  -- all stays
  settled_same : (settled_tree z.tree x ≡ z.tree) × (settled_node z.tree x z.node ≡ z.node) → (Ghost z.tree x → Forked z.tree x) → Settled z after
  settled_same e f = rw (e.0, e.1) (record { sound = nearly_sound z x s f; whole = w; follows = follows_self z })

  pub settled : Settled z after
  settled = by_cases (ℕ_discrete (at z.tree.state x) 2)
      (λ h. by_cases (ℕ_discrete (children z.tree x) 1)
      (λ k. settled_out h k)
      (λ k. settled_same (not_one_child z.tree x z.node k)
      (λ g. let (c, i) = child g in (two_children z.tree x).0 (omega (arith, has_children z.tree x c i)))))
      (λ h. settled_same (no_ghost z.tree x z.node h) (λ g. absurd (h g.1)))
