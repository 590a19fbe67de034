-- The last test of an unshared row, and the effect by its cases. Assumes nothing.
use Rattle.std.specs.Prelude.{◌≡◌, true, false, ℕ}
use Rattle.std.proofs.Common.{◌∙◌}
use mathlib.Core.List.{List, []}
use Rattle.std.proofs.Math.Option.{none, some}
use Rattle.records.specs.Records.{Records, table}
use Rattle.answers.specs.declared.Refusal.TheVariants.{PlacesFull}
use Rattle.answers.specs.Tests.{refusal}
use Rattle.answers.proofs.Laws.{refusal_next, refusal_none}
use Rattle.sharing.specs.Sharing.{free_entry, shared_at}
use Rattle.writes.specs.Unsharing.{full_test, shared_to}
use Rattle.writes.specs.Storing.{held_in_place, written_at}

module _ (z : Records) (places : List ℕ) (r : ℕ) (bs : List ℕ) (v : ℕ) where
  pub unshared_passes : shared_at z.tree (table z) v r ≡ false → refusal (full_test z (some v) r) ≡ none
  unfolding full_test
  unshared_passes h = refusal_next PlacesFull [] (rw h) ∙ refusal_none

  pub written_in_place : shared_at z.tree (table z) v r ≡ false → written_at z places r bs v ≡ held_in_place z places r bs v
  unfolding written_at
  written_in_place h = rw h

  pub written_shared : shared_at z.tree (table z) v r ≡ true → written_at z places r bs v ≡ shared_to z places r bs v (free_entry z.node)
  unfolding written_at
  written_shared h = rw h
