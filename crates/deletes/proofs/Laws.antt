-- What a delete that passed its tests asks and gives, and its tests in a row. Assumes nothing.
use Rattle.std.specs.Prelude.{◌≡◌, ◌≢◌, List, ℕ, ◌<◌, length}
use Rattle.std.proofs.Common.{sym, ◌∙◌, ap, arith, eq-eqb, ne_eqb}
use Rattle.std.proofs.Math.Option.{Option, none, some}
use Rattle.basics.specs.Decide.{at}
use Rattle.trees.specs.declared.Tree.{Tree}
use Rattle.records.specs.Records.{Records, table, lives}
use Rattle.trees.specs.Trees.{InUse, version}
use Rattle.records.specs.Sound.{Sound}
use Rattle.answers.specs.declared.Refusal.TheVariants.{OriginTag, UnknownTag}
use Rattle.answers.proofs.Laws.{refusal_here, refusal_next, refusal_none}
use Rattle.tree.specs.Nodes.{version_alive}
use Rattle.nodes.specs.Nodes.{first_child}
use Rattle.removal.specs.Removal.{ghosted}
use Rattle.table.specs.Rules.{Marked, Judging}
use Rattle.pruning.specs.Pruning.{pruned_node, pruned_node'}
use Rattle.deletes.specs.Deleting.{left, deleted_at, deleted, delete_tests, delete_verdict, Deletable}

-- What a delete that passed its tests gives

module _ {z : Records} {v : ℕ} (d : Deletable z v) where
  pub used_node : InUse z.tree v
  used_node = (d.snapshot.1.0, omega (arith, d.snapshot.1.1))

  -- what freeing asks
  pub freeable : {marks : List ℕ} → Marked (table z) marks (length z.node) → InUse z.tree v × Judging z.tree (table z) marks
  freeable h =
      let m = d.sound.measured in (
        used_node,
        record {
          fitting = record { halves = m.rows ∙ sym m.nodes; few = m.within.rows.1; linked = d.sound.linked };
          excepting = d.sound.excepting;
          marked = h;
        },
      )

  -- the node that may be thin lies in the tree
  pub thin_low : pruned_node (ghosted z.tree v) v < 128
  unfolding pruned_node
  thin_low = go (first_child (ghosted z.tree v) v)
    where
      go : (o : Option ℕ) → pruned_node' (ghosted z.tree v) v o < 128
      go none = (d.sound.linked.parent v d.snapshot.0 used_node).0
      go (some c) = d.snapshot.1.0

pub left_same : {t t' : Tree} {n n' r r' : List ℕ} → t ≡ t' → n ≡ n' → r ≡ r' → left t n r ≡ left t' n' r'
left_same a b c = λ i. left (a i) (b i) (c i)

-- The tests in a row

module _ (z : Records) (tag : ℕ) where
  pub origin_refused : tag ≡ 0 → delete_verdict z tag ≡ some OriginTag
  unfolding delete_verdict delete_tests
  origin_refused e = refusal_here OriginTag _ (eq-eqb tag 0 e)

  pub tag_refused : tag ≢ 0 → version z.tree tag ≡ none → delete_verdict z tag ≡ some UnknownTag
  unfolding delete_verdict delete_tests lives
  tag_refused n v = refusal_next OriginTag _ (ne_eqb tag 0 n) ∙ refusal_here UnknownTag _ (rw v)

  pub accepted : tag ≢ 0 → (v : ℕ) → version z.tree tag ≡ some v → delete_verdict z tag ≡ none
  unfolding delete_verdict delete_tests lives
  accepted n v h = refusal_next OriginTag _ (ne_eqb tag 0 n) ∙ refusal_next UnknownTag _ (rw h) ∙ refusal_none

  pub deleted_version : (v : ℕ) → version z.tree tag ≡ some v → deleted z tag ≡ deleted_at z v
  unfolding deleted
  deleted_version v h = rw h

  -- a living version other than the origin is a snapshot
  pub deletable : Sound z → tag ≢ 0 → (v : ℕ) → version z.tree tag ≡ some v → Deletable z v
  deletable s n v h =
      let (a, g) = version_alive z.tree tag v h in
      record { sound = s; snapshot = ((λ e. n (sym g ∙ ap (at z.tree.tag) e ∙ s.states.root.1)), a) }
