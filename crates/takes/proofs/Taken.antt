-- An accepted snapshot leaves sound records, in which the new version reads as its source and the others as before. Assumes nothing.
use Rattle.std.specs.Prelude.{◌≡◌, refl, ◌≢◌, true, false, not, ℕ, ◌<◌, eqb, leb}
use Rattle.std.proofs.Common.{sym, ◌∙◌, ap, arith, leb-false}
use Rattle.std.proofs.Math.Logic.{by_cases}
use Rattle.std.proofs.Math.Option.{Option, none, some}
use Rattle.std.proofs.Math.Decide.{ℕ_discrete}
use Rattle.std.proofs.lemmas.Bool.{eqb-false, not-false}
use Rattle.basics.specs.Decide.{at}
use Rattle.records.specs.Records.{Records, lives}
use Rattle.trees.specs.Trees.{snapshots, version}
use Rattle.records.specs.Sound.{Sound}
use Rattle.answers.specs.declared.Refusal.TheVariants.{ZeroTag, UnknownTag, TagAlive, SnapshotsFull}
use Rattle.answers.proofs.Laws.{refusal_passed}
use Rattle.edits.specs.Edits.{with_tree, Whole, Copied}
use Rattle.edits.proofs.Solve.{lives_node}
use Rattle.edits.proofs.Snapshots.{copy_snapshot, copy_first, copy_origin}
use Rattle.nodes.specs.Nodes.{first_child, empty_found, empty_of, child_some, child_none}
use Rattle.growing.specs.Growing.{tree_at}
use Rattle.growing.specs.Laws.{tree_under, tree_first, tree_between}
use Rattle.takes.specs.Taking.{snapshot_tests, snapshot_verdict, snapshot_tree}
use Rattle.takes.proofs.Laws.{room, tree_of_source}

-- what an accepted snapshot has passed
pub record Allowed (z : Records) (source new : ℕ) : Type 0 where
  pub named : new ≢ 0
  pub source_lives : lives z source ≡ true
  pub fresh : lives z new ≡ false
  pub few : snapshots z.tree < 64

pub snapshot_allowed : (z : Records) (source new : ℕ) → snapshot_verdict z source new ≡ none → Allowed z source new
unfolding snapshot_verdict snapshot_tests
snapshot_allowed z source new e =
    let (a, e₁) = refusal_passed (eqb new 0) ZeroTag _ e in
    let (b, e₂) = refusal_passed (not (lives z source)) UnknownTag _ e₁ in
    let (c, e₃) = refusal_passed (lives z new) TagAlive _ e₂ in
    let (d, e₄) = refusal_passed (leb 64 (snapshots z.tree)) SnapshotsFull _ e₃ in
    record { named = eqb-false new 0 a; source_lives = not-false _ b; fresh = c; few = leb-false 64 (snapshots z.tree) d }

module _ (z : Records) (w : Whole z.tree) (s : Sound z) (source new : ℕ) (a : Allowed z source new) where
  -- a snapshot of the origin
  of_origin : version z.tree source ≡ some 0 → source ≡ 0 → Copied z (with_tree z (tree_at z.tree 0 new)) source new
  of_origin v h =
      let (m, e) = empty_found z.tree (room z s a.few) in
      let p : 0 < new = omega (arith, a.named) in
      rw h (go m e p (first_child z.tree 0) refl)
    where
      go : (m : ℕ) → Rattle.nodes.specs.Nodes.empty_node z.tree ≡ some m → 0 < new → (o : Option ℕ) → first_child z.tree 0 ≡ o → Copied z (with_tree z (tree_at z.tree 0 new)) 0 new
      go m e p none k = rw (tree_first z.tree 0 new m e refl k) (copy_first z w s m new (empty_of z.tree m e) p a.fresh a.few (child_none z.tree 0 k))
      go m e p (some c) k = rw (tree_between z.tree 0 new m e refl c k) (copy_origin z w s m new (empty_of z.tree m e) p a.fresh a.few c (child_some z.tree 0 c k))

  of_snapshot : (v : ℕ) → version z.tree source ≡ some v → v ≢ 0 → Copied z (with_tree z (tree_at z.tree v new)) source new
  of_snapshot v h n =
      let (m, e) = empty_found z.tree (room z s a.few) in
      rw (tree_under z.tree v new m e n) (copy_snapshot z w s m new (empty_of z.tree m e) (omega (arith, a.named)) a.fresh a.few v source h n)

  pub snapshot_copied : Copied z (with_tree z (snapshot_tree z.tree source new)) source new
  snapshot_copied =
      let (v, h, l, g) = lives_node z source a.source_lives in
      rw (tree_of_source z.tree source new v h) (by_cases (ℕ_discrete v 0)
      (λ x. rw x (of_origin (rw x at h) (sym g ∙ ap (at z.tree.tag) x ∙ s.states.root.1)))
      (λ x. of_snapshot v h x))
