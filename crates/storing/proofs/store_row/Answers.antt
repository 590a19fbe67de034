-- `storing::store_row` meets its contract. Assumes nothing.
use mathlib.Core.Path.{refl, sym, ◌∙◌, ap}
use Prim.Native.Nat.{ℕ}
use native.Mathlib.Omega.{arith}
use Rattle.placing.specs.Placing.{put_at}
use Rattle.writes.proofs.StoringWays.{unshared_passes, written_in_place, written_shared}
use Rattle.writes.proofs.StoringLaws.{inside_place, many_share, few_share}
use Rattle.writes.specs.Storing.{held_in_place}
use Rattle.owning.specs.Laws.{held_same}
use Rattle.soundness.specs.Judged.{leaves_done, leaves_same}
use Rattle.storing.proofs.store_row.Goals as goal

pub put-requires : goal.put-requires
put-requires c = (rw c.requires.1.place (inside_place c.requires.0), c.requires.0.width)

pub returns-then-seen-lt2-clause-ends : goal.returns-then-seen-lt2-clause-ends
unfolding held_in_place
returns-then-seen-lt2-clause-ends c = let own = few_share c.requires.0 c.requires.1 (omega arith) in
    let a = c.args in
    leaves_done (unshared_passes _ a.places.now _ a.bytes.now _ own)
    (held_same refl refl refl (c.put.ensures ∙ ap (λ (q : ℕ). put_at a.records.now.size.width a.places.now q a.bytes.now) c.requires.1.place) ∙ sym (written_in_place _ _ _ _ _ own))

pub unshare-requires : goal.unshare-requires
unshare-requires c = (c.requires.0, many_share c.requires.0 c.requires.1 (omega arith))

pub returns-clause-ends : goal.returns-clause-ends
returns-clause-ends c = leaves_same refl (written_shared _ _ _ _ _ (many_share c.requires.0 c.requires.1 (omega arith))) c.unshare.ensures.ends
