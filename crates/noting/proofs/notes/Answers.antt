-- `noting::notes` meets its contract: stretch after stretch of the table is noted, or has none of the row. Assumes nothing.
use Prim.Native.Nat.{ℕ, zero, suc, ◌+◌, ◌*◌, ◌/◌, ◌%◌, ◌≤◌, ◌<◌, min}
use mathlib.Core.Path.{◌≡◌}
use mathlib.Core.Logic.{◌⊎◌, inl, inr}
use lib.ListN.{length, replicate}
use native.Mathlib.Omega.{arith}
use native.Mathlib.Decide.{dec_le}
use Rattle.std.proofs.Math.Logic.{by_cases}
use Rattle.std.proofs.Common.{rules}
use Rattle.trees.specs.Trees.{Table, table_of}
use Rattle.notes.specs.Notes.{Noting}
use Rattle.std.proofs.Common.{mod-eq_of_lt}
use Rattle.basics.specs.Decide.{at, fails}
use Rattle.notes.proofs.Making.{noting_start, noting_past, noting_over, noting_all}
use Rattle.noting.proofs.notes.Goals as goal
use Rattle.noting.proofs.notes.Goals.{then-among, else-among}

-- where stretch k of n entries begins
begun : (i k n : ℕ) → i ≤ 64 * k → (i ≡ 64 * k) ⊎ (i ≡ n) → k < n / 64 + min 1 (n % 64) → (i ≡ 64 * k) × (i < n)
begun i k n l (inl e) t = (e, omega arith)
begun i k n l (inr e) t = absurd (omega arith)

-- behind the last one
ended : (i k n : ℕ) → (i ≡ 64 * k) ⊎ (i ≡ n) → n / 64 + min 1 (n % 64) ≤ k → n ≤ i
ended i k n (inl e) t = omega arith
ended i k n (inr e) t = omega arith

-- where it ends
next : (to k n : ℕ) → to ≡ min n (64 * k + 64) → (to ≤ 64 * (k + 1)) × ((to ≡ 64 * (k + 1)) ⊎ (to ≡ n))
next to k n e = (omega arith, by_cases (dec_le n (64 * k + 64)) (λ l. inr (omega arith)) (λ l. inl (omega arith)))

-- no entry has a row that is too large
none : (e : Table) (r : ℕ) → ((i : ℕ) → at e.row i < 65536) → 65536 ≤ r → (k : ℕ) → k ≤ length e.node → Noting e r (replicate 128 0) k
none e r f l zero m = noting_start e r
none e r f l (suc k) m = let s : suc k ≡ k + 1 = omega arith in rw s (noting_past e r (omega arith) (λ h. omega (arith, f k, h)) (none e r f l k (omega arith)))

pub returns-in_default : goal.returns-in_default
returns-in_default c = noting_all _ _ {i = length c.args.node.now} (omega arith) (none (table_of c.args.rows c.args.node.now c.args.row.now) _ (λ i. omega (arith, c.type_inv.row i)) (omega (arith, c.in_default.ensures)) _ (omega arith))

pub loop-k-init : goal.loop-k-init
loop-k-init c = (0, omega arith, inl (omega arith), noting_start _ _)

pub note-requires : goal.note-requires
note-requires c = let (i, l, o, h) = c.loop-k.invariant in
    let (e, s) = begun i _ _ l o (rw (← c.div_ceil-k-end.ensures) c.loop-k-test.true) in
    (rw e at h, omega (arith, e, s, c.min-to.ensures), omega (arith, c.min-to.ensures), c.requires)

pub loop-k-preserved : goal.loop-k-preserved
loop-k-preserved c = let (i, l, o, h) = c.loop-k.invariant in
    let (e, s) = begun i _ _ l o (rw (← c.div_ceil-k-end.ensures) c.loop-k-test.true) in
    let low : c.in-Ok.key < 65536 = omega (arith, c.in-Ok.ensures) in
    let (m, b) = next c.min-to.result c.loop-k.k (length c.args.node.now) c.min-to.ensures in (
      c.min-to.result,
      m,
      b,
      elim c.if-among.branch [ then-among w ↦ rw w.notes-is w.note.ensures | else-among w ↦ rw w.notes-is (noting_over (table_of c.args.rows c.args.node.now c.args.row.now) _ _ (omega (arith, c.min-to.ensures)) c.requires.0 (search rules) (omega (arith, e, s, c.min-to.ensures)) (λ x. fails c.among.result c.among.ensures w.if-among.false (rw (mod-eq_of_lt low) at x)) (rw e at h)) ],
    )

pub returns : goal.returns
returns c = let (i, l, o, h) = c.loop-k.invariant in
    rw (← c.in-Ok.ensures.1) (noting_all _ _ (ended i _ _ o (rw (← c.div_ceil-k-end.ensures) c.loop-k-test.false)) h)
