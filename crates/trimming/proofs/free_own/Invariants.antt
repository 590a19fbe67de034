-- `trimming::free_own` meets its contract: the entries below i are done, the others as they were. Assumes nothing.
use mathlib.Core.Path.{◌≡◌}
use Rattle.removal.proofs.Lists.{Mapping}
use Rattle.records.specs.Lent.{SameLent}
use Rattle.trimming.specs.Trimmed.{own_free}
use Rattle.trimming.proofs.free_own.Given as goal

abbrev pub invariant-loop-i : goal.invariant-loop-i
invariant-loop-i l = SameLent l.initial.records l.records × (l.records.tree ≡ l.initial.records.tree) × Mapping (own_free l.v l.initial.records.node.now) l.initial.records.node.now l.records.node.now l.i × Mapping (own_free l.v l.initial.records.node.now) l.initial.records.row.now l.records.row.now l.i
