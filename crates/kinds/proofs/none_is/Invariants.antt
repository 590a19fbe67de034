-- `kinds::none_is` meets its contract: those that are wrong are counted. Assumes nothing.
use Rattle.std.proofs.Common.{◌≡◌, ◌≢◌, true, false, ℕ, ◌<◌, ◌≤◌}
use Rattle.kinds.proofs.none_is.Given as goal

abbrev pub invariant-loop-n : goal.invariant-loop-n
invariant-loop-n g l =
    (l.n ≤ 128) × (l.count ≤ l.n)
    × (l.count ≡ 0 → (k : ℕ) → k < l.n → goal.F-post g l.wrong k false)
    × (l.count ≢ 0 → (k : ℕ) × (k < 128) × goal.F-post g l.wrong k true)
