-- `freeing::free_affected` meets its contract: the entries below i are done, the others as they were. Assumes nothing.
use mathlib.Core.Path.{◌≡◌}
use Rattle.records.specs.Records.{table}
use Rattle.records.specs.Lent.{lent, SameLent}
use Rattle.freeing.specs.Laws.{FreedTo}
use Rattle.freeing.proofs.free_affected.Given as goal

abbrev pub invariant-loop-i : goal.invariant-loop-i
invariant-loop-i l = SameLent l.initial.records l.records × (l.records.tree ≡ l.initial.records.tree) × FreedTo l.removal.tree.now (table (lent l.initial.records)) l.removal.v l.i l.records.node.now l.records.row.now
