-- `deleting::delete_marked` meets its contract: each return cites the law of its test. Assumes nothing.
use Rattle.std.specs.Prelude.{◌≡◌, ◌≢◌, refl, List, ℕ, length}
use Rattle.std.proofs.Common.{sym, ◌∙◌, ap, subst}
use Rattle.std.proofs.Math.Option.{some}
use Rattle.answers.specs.declared.Refusal.TheVariants.{OriginTag, UnknownTag}
use Rattle.tree.specs.Rules.{found_at, found_missing}
use Rattle.trees.specs.Trees.{version}
use Rattle.table.specs.Rules.{Marked}
use Rattle.records.specs.Records.{Records, table}
use Rattle.records.specs.Sound.{Sound}
use Rattle.soundness.specs.Judged.{judged_sound, leaves_refused, leaves_done}
use Rattle.deletes.specs.Deleting.{Left, deleted_at, Deletable, DeleteEnds}
use Rattle.deletes.proofs.Laws.{origin_refused, tag_refused, accepted, deleted_version, deletable, left_same}
use Rattle.removal.proofs.Lists.{map_size}
use Rattle.trimming.specs.Trimmed.{own_freed}
use Rattle.trimming.specs.Laws.{trimmed}
use Rattle.deleting.proofs.delete_marked.Goals as goal

-- what the tests say of the records, which were judged as they were seen
ready : {y z : Records} {tag v : ℕ} → y ≡ z → Sound y → tag ≢ 0 → version z.tree tag ≡ some v → Deletable z v
ready e s n h = deletable _ _ (subst Sound e s) n _ h

marked : {y z : Records} {marks : List ℕ} → y ≡ z → Marked (table y) marks (length y.node) → Marked (table z) marks (length z.node)
marked {marks = marks} e m = subst (λ (x : Records). Marked (table x) marks (length x.node)) e m

done : {z : Records} {tag v : ℕ} {got : Left} → Deletable z v → tag ≢ 0 → version z.tree tag ≡ some v → got ≡ deleted_at z v → DeleteEnds z tag 0 got
done d n h g = judged_sound d.sound (leaves_done (accepted _ _ n _ h) (g ∙ sym (deleted_version _ _ _ h)))

pub returns-then-tag-eq0-clause-ends : goal.returns-then-tag-eq0-clause-ends
returns-then-tag-eq0-clause-ends c = judged_sound (subst Sound c.view.ensures c.if-not-judged.ensures.decided) (leaves_refused OriginTag (origin_refused _ _ c.if-tag-eq0.true))

pub returns-in_default-clause-ends : goal.returns-in_default-clause-ends
returns-in_default-clause-ends c = judged_sound (subst Sound c.view.ensures c.if-not-judged.ensures.decided) (leaves_refused UnknownTag (tag_refused _ _ c.if-tag-eq0.false (found_missing _ c.in_default.ensures)))

pub loose-requires : goal.loose-requires
loose-requires c = let d = ready c.view.ensures c.if-not-judged.ensures.decided c.if-tag-eq0.false (found_at _ _ c.in-Some.ensures) in
    (d.snapshot, λ n l. d.sound.linked.parent n)

pub emptied-records-requires : goal.emptied-records-requires
emptied-records-requires c = let d = ready c.view.ensures c.if-not-judged.ensures.decided c.if-tag-eq0.false (found_at _ _ c.in-Some.ensures) in
    d.snapshot.1.0

pub returns-then-loose-clause-ends : goal.returns-then-loose-clause-ends
returns-then-loose-clause-ends c = let known = found_at _ _ c.in-Some.ensures in
    let d = ready c.view.ensures c.if-not-judged.ensures.decided c.if-tag-eq0.false known in
    done d c.if-tag-eq0.false known (left_same (rw c.free_own.ensures.kept at c.emptied-records.ensures) c.free_own.ensures.freed.0 c.free_own.ensures.freed.1 ∙ trimmed _ _ d c.if-loose.ensures (marked c.view.ensures (c.if-not-judged.ensures.marked refl)))

pub remove-requires : goal.remove-requires
remove-requires c = (ready c.view.ensures c.if-not-judged.ensures.decided c.if-tag-eq0.false (found_at _ _ c.in-Some.ensures), marked c.view.ensures (c.if-not-judged.ensures.marked refl))

pub returns-clause-ends : goal.returns-clause-ends
returns-clause-ends c = let known = found_at _ _ c.in-Some.ensures in
    done (ready c.view.ensures c.if-not-judged.ensures.decided c.if-tag-eq0.false known) c.if-tag-eq0.false known c.remove.ensures.removed
