-- What a version without a child right below a living one alone reads are its own entries, and a delete of it leaves the tree without its node. Assumes nothing.
use Rattle.std.specs.Prelude.{◌≡◌, refl, ◌≢◌, List, [], ◌∷◌, ℕ, zero, suc, ◌+◌, ◌<◌, eqb, length, set}
use Rattle.std.proofs.Common.{sym, ◌∙◌, eq-eqb, ne_eqb}
use Rattle.std.proofs.Math.Path.{ap}
use Rattle.std.proofs.Math.Logic.{by_cases}
use Rattle.std.proofs.Math.Bool.{cond}
use Rattle.std.proofs.Math.Option.{none}
use Rattle.std.proofs.Math.Decide.{ℕ_discrete}
use native.Mathlib.Omega.{arith}
use Rattle.std.proofs.Math.Seq.{get_or-set_other}
use Rattle.basics.specs.Decide.{at}
use Rattle.trees.specs.declared.Tree.{Tree}
use Rattle.trees.specs.Trees.{Table, Snapshot, up, ancestor}
use Rattle.trees.specs.Rules.{States}
use Rattle.table.specs.Rules.{Judging, Marked, Meets, here, above}
use Rattle.records.specs.Records.{Records, table}
use Rattle.nodes.specs.Nodes.{first_child, no_child}
use Rattle.asking.specs.Asking.{MeetsAlone}
use Rattle.asking.specs.Laws.{childless_alone}
use Rattle.affecting.specs.Affected.{above_other}
use Rattle.removal.specs.Removal.{lonely, freed_list, ghosted, emptied}
use Rattle.removal.proofs.Lists.{map_size, map_at, map_only}
use Rattle.removal.proofs.FreeLonely.{tested}
use Rattle.freeing.specs.Laws.{alone_lonely, lonely_alone}
use Rattle.pruning.specs.Laws.{leaf_tree, leaf_node, no_ghost}
use Rattle.deletes.specs.Deleting.{left, deleted_at, Deletable}
use Rattle.deletes.proofs.Laws.{used_node, freeable, left_same}
use Rattle.trimming.specs.Trimmed.{Loose, own_free, own_freed}

-- The lists

pub own_yes : (v : ℕ) (node : List ℕ) (i x : ℕ) → at node i ≡ v → 0 ≡ own_free v node i x
own_yes v node i x e = rw (eq-eqb (at node i) v e)

pub own_no : (v : ℕ) (node : List ℕ) (i x : ℕ) → at node i ≢ v → x ≡ own_free v node i x
own_no v node i x e = rw (ne_eqb (at node i) v e)

module _ (t : Tree) (e : Table) (marks : List ℕ) (h : Judging t e marks) (s : States t) (v : ℕ) (w : Snapshot t v) (o : Loose t v) where
  -- the parent is another node
  other : up t v ≢ v
  unfolding ancestor
  other x = w.0 (above_other (up t) s.root.2 v (h.fitting.linked.reaches v w.0 (w.1.0, λ y. omega (arith, w.1.1))) 0 x)

  -- what the version alone meets is its own
  own_met : (g r : ℕ) → MeetsAlone t marks v g r → g ≡ v
  own_met g r m = go m.meets
    where
      go : Meets t marks r g v → g ≡ v
      go (here x) = sym x
      go (above x z f d) = absurd (m.alone (up t v, (o.1, other, d)))

  own_lonely : (i : ℕ) → i < length e.node → lonely t e v i ≡ eqb (at e.node i) v
  own_lonely i l = by_cases (ℕ_discrete (at e.node i) v)
      (λ x. alone_lonely t e marks h v w i l (rw x (childless_alone t marks (at e.row i) v h.fitting.linked w.0 o.0)) ∙ sym (eq-eqb _ v x))
      (λ x. tested (lonely t e v i) (λ y. absurd (x (own_met _ _ (lonely_alone t e marks h v w i l y)))) (λ y. y ∙ sym (ne_eqb _ v x)))

  pub own_freed_lem : (xs : List ℕ) → length xs ≡ length e.node → own_freed v e.node xs ≡ freed_list t e v xs
  unfolding own_freed freed_list
  own_freed_lem xs k = map_only (λ i x. cond (lonely t e v i) 0 x) xs _ (map_size (own_free v e.node) 0 xs)
      (λ i l. map_at (own_free v e.node) 0 xs i l ∙ ap (λ (j : ℕ). own_free v e.node j (at xs i)) (let q : 0 + i ≡ i = omega arith in q) ∙ rw (own_lonely i (omega (arith, k))))

-- The tree

set_again : (xs : List ℕ) (i x y : ℕ) → set (set xs i x) i y ≡ set xs i y
set_again [] i x y = refl
set_again (z ∷ xs) zero x y = refl
set_again (z ∷ xs) (suc i) x y = ap (λ (ys : List ℕ). z ∷ ys) (set_again xs i x y)

emptied_again : (t : Tree) (v : ℕ) → emptied (ghosted t v) v ≡ emptied t v
emptied_again t v = rw (set_again t.state v 2 0, set_again t.tag v 0 0)

module _ (z : Records) (v : ℕ) (d : Deletable z v) (o : Loose z.tree v) where
  -- it has no child as a ghost either
  ghost_childless : first_child (ghosted z.tree v) v ≡ none
  ghost_childless = no_child (ghosted z.tree v) v (λ c (a, u, y). by_cases (ℕ_discrete c v)
      (λ x. o.0 c (a, rw x (used_node d), y))
      (λ x. o.0 c (a, (u.0, λ f. u.1 (get_or-set_other z.tree.state v c 2 0 x ∙ f)), y)))

  -- a delete of it
  pub trimmed : {marks : List ℕ} → Marked (table z) marks (length z.node) → left (emptied z.tree v) (own_freed v z.node z.node) (own_freed v z.node z.row) ≡ deleted_at z v
  unfolding deleted_at
  trimmed {marks} h =
      let t = ghosted z.tree v in
      let j = (freeable d h).1 in
      let s = d.sound.states in
      let free = own_freed_lem z.tree (table z) marks j s v d.snapshot o in
      let a = leaf_tree t v ghost_childless in
      let b = leaf_node t v ghost_childless in
      let x = other z.tree (table z) marks j s v d.snapshot o in
      let n : at (emptied t v).state (up z.tree v) ≢ 2 = λ e. omega (arith, get_or-set_other (set z.tree.state v 2) v (up z.tree v) 0 0 x, get_or-set_other z.tree.state v (up z.tree v) 2 0 x, o.1.1, e) in
      let (k, m) = no_ghost (emptied t v) (up z.tree v) (freed_list z.tree (table z) v z.node) n in
      rw (a, b, k, m) (left_same (sym (emptied_again z.tree v)) (free z.node refl) (free z.row j.fitting.halves))
