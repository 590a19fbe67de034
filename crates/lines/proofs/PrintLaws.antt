-- The program's store is opened, and so every answer is that of the opened model. Assumes nothing.
use Rattle.std.specs.Prelude.{◌≡◌, List, ℕ, ◌*◌, ◌≤◌, ◌<◌, length}
use Rattle.std.proofs.Common.{◌∙◌, arith, lt-ltb, le-ltb}
use Rattle.std.proofs.Math.Option.{none}
use Rattle.trees.specs.declared.Tree.{Tree}
use Rattle.records.specs.Records.{Records, records_of}
use Rattle.answers.specs.Tests.{refusal, open_tests, in_measure}
use Rattle.opening.specs.Opening.{open_verdict, Opening}
use Rattle.steps.specs.Begins.{open_call}
use Rattle.text.specs.Text.{line, dash, shown, answer_line}
use Rattle.laying.specs.Laid.{Lays}
use Rattle.lines.specs.Streams.{run_tests, StreamEnds}
use Rattle.lines.specs.Printed.{program_size, served, printed}

pub printed_long : (s : List ℕ) {out out' : List ℕ} {end : ℕ} → 4096 < length s → Lays out 0 (line 0 8 dash) out' end → Lays out 0 (printed s) out' end
unfolding printed answer_line shown
printed_long s l y = rw (lt-ltb 4096 (length s) l) y

pub printed_short : (s : List ℕ) {out out' : List ℕ} {end : ℕ} → length s ≤ 4096 → Lays out 0 (served s) out' end → Lays out 0 (printed s) out' end
unfolding printed
printed_short s l y = rw (le-ltb 4096 (length s) l) y

-- buffers of the right lengths are opened
pub opens : (places node row : List ℕ) → length places ≡ 48 → length node ≡ 2 → length row ≡ 2 → open_verdict program_size places node row ≡ none
unfolding open_verdict refusal open_tests in_measure
opens places node row p n r = rw (p, n, r)

-- and a run on what the opening left answers as the opened model
pub program_serves : {places node row places₁ node₁ row₁ : List ℕ} {number : ℕ} {tree : Tree} {s out : List ℕ} {answer : ℕ} {z' : Records} {places' out' : List ℕ} {end : ℕ}
    → length places ≡ 48 → length node ≡ 2 → length row ≡ 2 → Opening program_size places node row number tree places₁ node₁ row₁
    → length s ≤ 4096 → 147456 ≤ length out → StreamEnds (records_of program_size tree node₁ row₁) places₁ s out answer z' places' out' end → Lays out 0 (served s) out' end
unfolding served run_tests refusal
program_serves {places} {node} {row} {places₁} {node₁} {row₁} {number} {tree} {s} {out} {answer} p n r o l m e =
    let run = (open_call program_size places node row number tree places₁ node₁ row₁ o (opens places node row p n r)).1 in
    let d = e.sound run.store.sound in
    let fits : answer ≡ 0 = d.number ∙ rw (run.store.size, le-ltb 4096 (length s) l, le-ltb (length out) (36 * length s) (omega (arith, l, m))) in
    (d.accepted fits _ run).lays
