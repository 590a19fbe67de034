-- `unsharing::unshare` meets its contract. Assumes nothing.
use mathlib.Core.Path.{◌≡◌, sym, ◌∙◌}
use Prim.Native.Nat.{ℕ}
use Rattle.std.proofs.Common.{Option}
use Rattle.writes.proofs.UnsharingWays.{full_refused, free_passes, shared_saving, shared_to_free}
use Rattle.owning.specs.Laws.{writable_at}
use Rattle.records.specs.Records.{Records}
use Rattle.sharing.specs.Laws.{free_some}
use Rattle.sharing.specs.Sharing.{free_entry}
use Rattle.soundness.specs.Judged.{leaves_refused, leaves_done}
use Rattle.answers.specs.declared.Refusal.TheVariants.{PlacesFull}
use Rattle.tree.specs.Rules.{found_at, found_missing, found_of}
use Rattle.unsharing.proofs.unshare.Goals as goal

-- the first free entry of the records as they are viewed is theirs
viewed : {y z : Records} {o : Option ℕ} → y ≡ z → o ≡ found_of (free_entry y.node) → o ≡ found_of (free_entry z.node)
viewed e h = rw (← e) h

pub returns-in_default-clause-ends : goal.returns-in_default-clause-ends
returns-in_default-clause-ends c = leaves_refused PlacesFull (full_refused _ c.requires.0.sound _ _ c.requires.1 (found_missing _ (viewed c.view.ensures c.in_default.ensures)))

pub save_row-requires : goal.save_row-requires
save_row-requires c = (writable_at c.if-v-eq0.true c.requires.0, free_some _ _ (found_at _ _ (viewed c.view.ensures c.in-Some.ensures)))

pub move_row-requires : goal.move_row-requires
move_row-requires c = (c.requires.0, c.if-v-eq0.false, free_some _ _ (found_at _ _ (viewed c.view.ensures c.in-Some.ensures)))

pub returns-then-v-eq0-clause-ends : goal.returns-then-v-eq0-clause-ends
returns-then-v-eq0-clause-ends c = let known = found_at _ _ (viewed c.view.ensures c.in-Some.ensures) in
    leaves_done (free_passes _ c.requires.0.sound _ _ _ known) (c.save_row.ensures.saved ∙ sym (shared_saving _ _ _ _ _ _ known c.if-v-eq0.true))

pub returns-else-v-eq0-clause-ends : goal.returns-else-v-eq0-clause-ends
returns-else-v-eq0-clause-ends c = let known = found_at _ _ (viewed c.view.ensures c.in-Some.ensures) in
    leaves_done (free_passes _ c.requires.0.sound _ _ _ known) (c.move_row.ensures.moved ∙ sym (shared_to_free _ _ _ _ _ _ known c.if-v-eq0.false))
