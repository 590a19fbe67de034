-- A delete keeps the records sound. Assumes nothing.
use Rattle.std.specs.Prelude.{◌≡◌, refl, ◌≢◌, not, List, [], ℕ, eqb}
use Rattle.std.proofs.Common.{◌∙◌, ap}
use Rattle.std.proofs.Math.Option.{Option, none, some}
use Rattle.std.proofs.lemmas.Bool.{eqb-false, not-false}
use Rattle.measures.specs.declared.Size.{Size}
use Rattle.records.specs.Records.{Records, records_of, lives}
use Rattle.trees.specs.Trees.{Snapshot, version}
use Rattle.records.specs.Sound.{Sound}
use Rattle.answers.specs.declared.Refusal.{Refusal}
use Rattle.answers.specs.declared.Refusal.TheVariants.{OriginTag, UnknownTag}
use Rattle.answers.specs.Tests.{unless}
use Rattle.answers.proofs.Laws.{refusal_passed}
use Rattle.edits.proofs.Solve.{lives_node}
use Rattle.deletes.specs.Deleting.{Left, left, delete_tests, delete_verdict, deleted}
use Rattle.intact.specs.Intact.{Intact}
use Rattle.intact.specs.Tags.{origin_tag as node_origin}
use Rattle.removed.specs.RemovedVersion.{removed, removed_whole}

-- all that a delete leaves
abbrev pub delete_left : Records → ℕ → Left
delete_left z tag = unless (delete_verdict z tag) (λ x. left z.tree z.node z.row) (deleted z tag)

abbrev pub left_records : Size → Left → Records
left_records size l = records_of size l.tree l.node l.row

-- an accepted delete is of a snapshot
pub delete_allowed : (z : Records) → Sound z → (tag : ℕ) → delete_verdict z tag ≡ none → (tag ≢ 0) × ((v : ℕ) × (version z.tree tag ≡ some v) × Snapshot z.tree v)
unfolding delete_verdict delete_tests
delete_allowed z s tag e =
    let (a, e₁) = refusal_passed (eqb tag 0) OriginTag _ e in
    let (b, e₂) = refusal_passed (not (lives z tag)) UnknownTag [] e₁ in
    let (v, h, x, g) = lives_node z tag (not-false _ b) in
    let off : tag ≢ 0 = eqb-false tag 0 a in
    (off, (v, h, ((λ k. off (node_origin z s tag (h ∙ ap some k))), x)))

-- the whole call
pub delete_intact : (z : Records) (places : List ℕ) → Intact z places → (tag : ℕ) → Intact (left_records z.size (delete_left z tag)) places
unfolding deleted
delete_intact z places k tag = go (delete_verdict z tag) refl
  where
    go : (o : Option Refusal) → delete_verdict z tag ≡ o → Intact (left_records z.size (unless o (λ x. left z.tree z.node z.row) (deleted z tag))) places
    go none e =
        let (off, (v, h, a)) = delete_allowed z k.sound tag e in
        rw h (record { sound = (removed z k.sound k.whole tag v h a).sound; size = k.size; whole = removed_whole z k.sound k.whole tag v h a })
    go (some x) e = k
