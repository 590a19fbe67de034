-- What becomes of a shared row: the last test of SPEC 7.1, and the way by which it is written. Definitions only. Assumes nothing.
use Rattle.std.specs.Prelude.{Bool, false, ◌&&◌, cond, List, [], ◌∷◌, ℕ, eqb, leb}
use Rattle.std.proofs.Math.Option.{Option, none, some}
use Rattle.records.specs.Records.{Records, table}
use Rattle.trees.specs.Trees.{used}
use Rattle.answers.specs.declared.Refusal.TheVariants.{PlacesFull}
use Rattle.answers.specs.Tests.{Tests}
use Rattle.nodes.specs.Nodes.{first_child}
use Rattle.sharing.specs.Sharing.{shared_at}
use Rattle.owning.specs.Owning.{Held, held}
use Rattle.moving.specs.Moving.{held_to_free}
use Rattle.saving.specs.Saving.{saving_by}

abbrev pub shared_by : Records → Option ℕ → ℕ → Bool
shared_by z none r = false
shared_by z (some v) r = shared_at z.tree (table z) v r

unfoldable pub full_test : Records → Option ℕ → ℕ → Tests
full_test z v r = (shared_by z v r && leb z.size.places (used (table z)), PlacesFull) ∷ []

module _ (z : Records) (places : List ℕ) (r : ℕ) (bs : List ℕ) where
  -- which free place is taken is free: it is the first
  abbrev pub shared_to : ℕ → Option ℕ → Held
  shared_to v none = held z.tree z.node z.row places
  shared_to v (some i) = cond (eqb v 0) (saving_by z places r bs (first_child z.tree 0) i) (held_to_free z places r bs v i)
