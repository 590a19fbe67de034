-- No more marks are counted than there are rows.
use Rattle.std.proofs.Common.{◌≤◌}
use Rattle.history_copies.proofs.Copies.used.Given as goal

abbrev pub invariant-loop-version : goal.invariant-loop-version
invariant-loop-version l = l.used ≤ 520

abbrev pub invariant-loop-row : goal.invariant-loop-row
invariant-loop-row l = l.used ≤ 520
