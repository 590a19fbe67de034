-- Of sound records: tag 0 is the origin's, and no snapshot has it. Assumes nothing.
use Rattle.std.specs.Prelude.{◌≡◌, ◌≢◌, ℕ}
use Rattle.std.proofs.Common.{sym, ◌∙◌, arith}
use Rattle.std.proofs.Math.Option.{some}
use Rattle.trees.specs.Trees.{version}
use Rattle.tree.specs.Nodes.{version_alive}
use Rattle.records.specs.Records.{Records}
use Rattle.records.specs.Sound.{Sound}

pub origin_tag : (z : Records) → Sound z → (tag : ℕ) → version z.tree tag ≡ some 0 → tag ≡ 0
origin_tag z s tag h = sym (version_alive z.tree tag 0 h).1 ∙ s.states.root.1

pub snapshot_tag : (z : Records) → Sound z → (tag v : ℕ) → version z.tree tag ≡ some v → v ≢ 0 → tag ≢ 0
snapshot_tag z s tag v h off = λ e. let (a, g) = version_alive z.tree tag v h in omega (arith, s.tagged.above v (off, a))
