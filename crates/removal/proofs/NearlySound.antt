-- Records that are sound but for a ghost's children, which has two. Assumes nothing.
use Rattle.std.specs.Prelude.{◌≢◌, ℕ}
use Rattle.std.proofs.Math.Logic.{by_cases}
use Rattle.std.proofs.Math.Decide.{ℕ_discrete}
use Rattle.records.specs.Records.{Records}
use Rattle.trees.specs.Trees.{Ghost, Child}
use Rattle.records.specs.Sound.{Sound}
use Rattle.removal.specs.Removal.{Nearly}

-- records that are sound but for a ghost's children are sound if it has two
pub nearly_sound : (z : Records) (x : ℕ) → Nearly z x → (Ghost z.tree x → (c : ℕ) × (d : ℕ) × (c ≢ d) × Child z.tree x c × Child z.tree x d) → Sound z
nearly_sound z x s f = record {
  measured = s.measured;
  states = s.states;
  linked = s.linked;
  tagged = s.tagged;
  branching = record { root = s.root; ghost = λ n g. by_cases (ℕ_discrete n x) (λ h. rw h (f (rw h at g))) (λ h. s.ghost n h g) };
  excepting = s.excepting;
  all_read = s.all_read;
}
