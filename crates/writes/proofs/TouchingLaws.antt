-- What an untouched row and any other leave of the last test and of the outcome. Assumes nothing.
use Rattle.std.specs.Prelude.{◌≡◌, refl, Bool, true, false, not, ◌&&◌, ℕ, leb}
use Rattle.std.proofs.Common.{◌∙◌}
use Rattle.std.proofs.Math.Path.{ap}
use mathlib.Core.List.{List, [], ◌∷◌}
use Rattle.std.proofs.Math.Option.{none, some}
use Rattle.basics.specs.Equal.{equal, equal_refl}
use Rattle.measures.specs.Measures.{bytes_at}
use Rattle.records.specs.Records.{Records, table}
use Rattle.trees.specs.Trees.{used}
use Rattle.trees.specs.Reading.{place}
use Rattle.answers.specs.declared.Refusal.TheVariants.{PlacesFull}
use Rattle.answers.specs.Tests.{refusal}
use Rattle.answers.proofs.Laws.{refusal_next, refusal_none}
use Rattle.sharing.specs.Sharing.{shared_at}
use Rattle.owning.specs.Owning.{held}
use Rattle.writes.specs.Unsharing.{full_test}
use Rattle.writes.specs.Storing.{written_at}
use Rattle.writes.specs.Touching.{untouched_at, saved_at, room_test}

-- a test for want of a place, with bytes that are there already and with others
wants_none : (a b : Bool) {c : Bool} → c ≡ true → (a && b && not c) ≡ false
wants_none true true e = ap not e
wants_none true false e = refl
wants_none false b e = refl

wants_as : (a b : Bool) {c : Bool} → c ≡ false → (a && b && not c) ≡ (a && b)
wants_as true true e = ap not e
wants_as true false e = refl
wants_as false b e = refl

pub last_yes : (b : Bool) → (b && true) ≡ b
last_yes true = refl
last_yes false = refl

module _ (z : Records) (places : List ℕ) (r : ℕ) (bs : List ℕ) (v : ℕ) where
  -- bytes that the version reads there
  pub as_read : bs ≡ bytes_at z.size.width places (place z.tree (table z) v r) → untouched_at z places r bs v ≡ true
  unfolding untouched_at
  as_read e = rw e (equal_refl (bytes_at z.size.width places (place z.tree (table z) v r)))

  -- what was compared with the bytes in the place that is read
  pub compared : {b : Bool} {q : ℕ} → b ≡ equal bs (bytes_at z.size.width places q) → q ≡ place z.tree (table z) v r → b ≡ untouched_at z places r bs v
  unfolding untouched_at
  compared e f = e ∙ ap (λ (q : ℕ). equal bs (bytes_at z.size.width places q)) f

  pub untouched_passes : untouched_at z places r bs v ≡ true → refusal (room_test z places (some v) r bs) ≡ none
  unfolding room_test
  untouched_passes e = refusal_next PlacesFull [] (wants_none (shared_at z.tree (table z) v r) (leb z.size.places (used (table z))) e) ∙ refusal_none

  pub touched_test : untouched_at z places r bs v ≡ false → refusal (room_test z places (some v) r bs) ≡ refusal (full_test z (some v) r)
  unfolding room_test full_test
  touched_test e = ap (λ (b : Bool). refusal ((b, PlacesFull) ∷ [])) (wants_as (shared_at z.tree (table z) v r) (leb z.size.places (used (table z))) e)

  pub untouched_left : untouched_at z places r bs v ≡ true → saved_at z places r bs v ≡ held z.tree z.node z.row places
  unfolding saved_at
  untouched_left e = rw e

  pub touched_left : untouched_at z places r bs v ≡ false → saved_at z places r bs v ≡ written_at z places r bs v
  unfolding saved_at
  touched_left e = rw e
