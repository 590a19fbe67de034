-- What a run answers: each refusal by its test, and the text where none holds. Assumes nothing.
use Rattle.std.specs.Prelude.{◌≡◌, refl, ◌≢◌, List, ℕ, ◌*◌, ◌≤◌, ◌<◌}
use Rattle.std.proofs.Common.{sym, ◌∙◌, ap, eq-eqb, ne_eqb, lt-ltb, le-ltb}
use Rattle.std.proofs.Math.Option.{some}
use Rattle.std.proofs.Math.ListN.{length}
use Rattle.basics.specs.Decide.{not_yes, not_no}
use Rattle.trees.specs.declared.Tree.{Tree}
use Rattle.records.specs.Records.{Records, records_of}
use Rattle.records.specs.Sound.{Sound}
use Rattle.answers.specs.declared.Refusal.{Refusal}
use Rattle.answers.specs.declared.Refusal.TheVariants.{BadLength, LongStream, Unsound}
use Rattle.answers.specs.Answers.{number}
use Rattle.answers.specs.Tests.{refusal, verdict_number}
use Rattle.answers.proofs.Laws.{refusal_here, refusal_next, refusal_none, number_some}
use Rattle.soundness.specs.Judged.{judged_sound, judged_unsound}
use Rattle.lines.specs.Streams.{run_tests, Kept, StreamEnds}
use Rattle.progress.specs.Replying.{Progress, line_room, records_in}
use Rattle.lines.specs.Loop.{Through}

-- What a run answers

module _ (z : Records) (places s out : List ℕ) where
  abbrev Says : Refusal → Type 0
  Says x = refusal (run_tests z (length places) (length s) (length out)) ≡ some x

  says_places : length places ≢ z.size.places * z.size.width → Says BadLength
  unfolding run_tests
  says_places f = refusal_here BadLength _ (not_yes (ne_eqb _ _ f))

  module _ (e : length places ≡ z.size.places * z.size.width) where
    says_long : 4096 < length s → Says LongStream
    unfolding run_tests
    says_long l = refusal_next BadLength _ (not_no (eq-eqb _ _ e)) ∙ refusal_here LongStream _ (lt-ltb 4096 (length s) l)

    module _ (l : length s ≤ 4096) where
      says_room : length out < line_room z.size.width * length s → Says BadLength
      unfolding run_tests
      says_room f =
          refusal_next BadLength _ (not_no (eq-eqb _ _ e)) ∙ refusal_next LongStream _ (le-ltb 4096 (length s) l)
          ∙ refusal_here BadLength _ (lt-ltb (length out) (line_room z.size.width * length s) f)

      says_none : line_room z.size.width * length s ≤ length out → 0 ≡ verdict_number (refusal (run_tests z (length places) (length s) (length out)))
      unfolding run_tests
      says_none f = rw (
          refusal_next BadLength _ (not_no (eq-eqb _ _ e))
          ∙ refusal_next LongStream _ (le-ltb 4096 (length s) l)
          ∙ refusal_next BadLength _ (le-ltb (length out) (line_room z.size.width * length s) f)
          ∙ refusal_none
          )

  -- refused: the tree and the end come from the answer that was made
  module _ {answer n to : ℕ} {tree' : Tree} (r : (answer ≡ n) × (tree' ≡ z.tree) × (to ≡ 0)) where
    kept : Kept z places out (records_of z.size tree' z.node z.row) places out to
    kept = record { records = ap (λ (t : Tree). records_of z.size t z.node z.row) r.1; bytes = refl; text = refl; ends = r.2 }

    pub run_unsound : (Sound z → ⊥) → n ≡ number Unsound → StreamEnds z places s out answer (records_of z.size tree' z.node z.row) places out to
    run_unsound f e = judged_unsound f (r.0 ∙ e, kept)

    run_refused : Sound z → (x : Refusal) → n ≡ number x → Says x → StreamEnds z places s out answer (records_of z.size tree' z.node z.row) places out to
    run_refused y x i e = judged_sound y (record { number = rw e (r.0 ∙ i); refused = λ g. kept; accepted = λ g. absurd (number_some x (sym i ∙ sym r.0 ∙ g)) })

  pub run_places : {answer to : ℕ} {tree' : Tree} → (answer ≡ 2) × (tree' ≡ z.tree) × (to ≡ 0) → Sound z → length places ≢ z.size.places * z.size.width
      → StreamEnds z places s out answer (records_of z.size tree' z.node z.row) places out to
  run_places r y f = run_refused r y BadLength refl (says_places f)

  pub run_long : {answer to : ℕ} {tree' : Tree} → (answer ≡ 8) × (tree' ≡ z.tree) × (to ≡ 0) → Sound z → length places ≡ z.size.places * z.size.width → 4096 < length s
      → StreamEnds z places s out answer (records_of z.size tree' z.node z.row) places out to
  run_long r y e l = run_refused r y LongStream refl (says_long e l)

  pub run_room : {answer to : ℕ} {tree' : Tree} → (answer ≡ 2) × (tree' ≡ z.tree) × (to ≡ 0) → Sound z → length places ≡ z.size.places * z.size.width → length s ≤ 4096
      → length out < line_room z.size.width * length s → StreamEnds z places s out answer (records_of z.size tree' z.node z.row) places out to
  run_room r y e l f = run_refused r y BadLength refl (says_room e l f)

-- accepted: from the first run to the last
pub run_done : {first last : Progress} {node row places s out node' row' places' out' : List ℕ} → Sound (records_in first node row) → length places ≡ first.size.places * first.size.width
    → length s ≤ 4096 → line_room first.size.width * length s ≤ length out → Through first node row places s out last node' row' places' out'
    → StreamEnds (records_in first node row) places s out 0 (records_of first.size last.tree node' row') places' out' last.end
run_done {first} {last} {node} {row} {places} {s} {out} {node'} {row'} {places'} {out'} y e l f t = judged_sound y (record {
  number = says_none (records_in first node row) places s out e l f;
  refused = λ g. absurd (g refl);
  accepted = λ g m u. rw t.sized at (t.goes m u);
})
