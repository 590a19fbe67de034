-- A border is a step of the reference model: row by row it is a single write of both, so it ends at the same row with the same refusal. Assumes nothing.
use Rattle.std.specs.Prelude.{◌≡◌, List, [], ◌∷◌, ℕ}
use Rattle.std.proofs.Math.Path.{refl, sym}
use Rattle.std.proofs.Common.{◌∙◌, ap, ap₂, eq-eqb}
use Rattle.std.proofs.Math.Option.{Option, none, some}
use Rattle.basics.specs.Decide.{not_no}
use Rattle.measures.specs.declared.Size.{Size}
use Rattle.measures.specs.Measures.{rows_with}
use Rattle.records.specs.Records.{Records, lives}
use Rattle.model.specs.Call.{write, border}
use Rattle.model.specs.Model.{Model, verdict, effect, after, border_tests, bordered, reply, next}
use Rattle.answers.specs.declared.Refusal.{Refusal}
use Rattle.answers.specs.declared.Refusal.TheVariants.{BadLength}
use Rattle.answers.specs.Answers.{handed}
use Rattle.answers.specs.Tests.{refusal, unless, verdict_number}
use Rattle.answers.proofs.Laws.{refusal_next, refusal_same}
use Rattle.answers.specs.InOrder.{stopped, in_order}
use Rattle.answers.specs.InOrderLaws.{Alike, order_alike}
use Rattle.copies.specs.Copies.{alive}
use Rattle.agreement.specs.Verdicts.{verdict_same}
use Rattle.view.proofs.Viewed.{view_alive}
use Rattle.owning.specs.Owning.{Held, held}
use Rattle.writes.specs.Writing.{write_verdict, written}
use Rattle.wrote.specs.Wrote.{held_records, write_left}
use Rattle.borders.specs.Bordering.{border_verdict, row_verdict, row_written, rows_written, Ends}
use Rattle.borders.specs.Bordering as store
use Rattle.steps.specs.WroteVerdict.{same_verdict}
use Rattle.steps.specs.Calls.{Runs}
use Rattle.steps.proofs.Calls.{write_call}

-- what a store and a model have in common between two rows
abbrev Goes : Size → Held → Model → Type 0
Goes size h m = Runs (held_records size h) h.places m

module _ (z : Records) (places : List ℕ) (m : Model) (run : Runs z places m) where
  -- a write has the same verdict in both
  write_verdicts : (tag r : ℕ) (bs : List ℕ) → write_verdict z places tag r bs ≡ verdict z.size m (write tag r bs)
  write_verdicts tag r bs = sym (same_verdict z places run.store tag r bs) ∙ verdict_same z.size run.agrees (write tag r bs)

  -- an accepted one leaves a store that runs
  write_goes : (tag r : ℕ) (bs : List ℕ) → write_verdict z places tag r bs ≡ none → Goes z.size (written z places tag r bs) (effect m (write tag r bs))
  unfolding after
  write_goes tag r bs e =
      let f = sym (write_verdicts tag r bs) ∙ e in
      let k = (write_call z places m run tag r (verdict_number (write_verdict z places tag r bs)) bs (write_left z places tag r bs) (record { numbered = refl; left = refl })).1 in
      rw (e, f) at k

module _ (z : Records) (places : List ℕ) (m : Model) (run : Runs z places m) where
  -- the tests of a border are the model's
  border_verdicts : (tag : ℕ) (rows bytes : List ℕ) → border_verdict z places tag rows bytes ≡ refusal (border_tests z.size m.snapshots tag rows bytes)
  unfolding border_verdict store.border_tests border_tests
  border_verdicts tag rows bytes =
      let a : lives z tag ≡ alive m.snapshots tag = sym (view_alive z run.store.sound places tag) ∙ run.agrees.rows.living tag in
      refusal_same _ _ _ _ (λ x. refusal_next BadLength _ (not_no (eq-eqb _ _ run.store.size)) ∙ rw a)

  bordered_alike : (tag : ℕ) (rows bytes : List ℕ) → Alike (Goes z.size) (store.bordered z places tag rows bytes) (bordered z.size m tag rows bytes)
  unfolding store.bordered bordered
  bordered_alike tag rows bytes = rw (sym (border_verdicts tag rows bytes)) (go (border_verdict z places tag rows bytes))
    where
      go : (v : Option Refusal) → Alike (Goes z.size) (unless v (stopped (held z.tree z.node z.row places)) (rows_written z.size tag (held z.tree z.node z.row places) rows bytes))
          (unless v (stopped m) (in_order (λ n x. verdict z.size n (write tag x.0 x.1)) (λ n x. effect n (write tag x.0 x.1)) m (rows_with z.size.width rows bytes)))
      go none = order_alike (row_verdict z.size tag) (row_written z.size tag) (λ n x. verdict z.size n (write tag x.0 x.1)) (λ n x. effect n (write tag x.0 x.1)) (Goes z.size)
          (λ h n x g. write_verdicts (held_records z.size h) h.places n g tag x.0 x.1) (λ h n x g e. write_goes (held_records z.size h) h.places n g tag x.0 x.1 e)
          (held z.tree z.node z.row places) m (rows_with z.size.width rows bytes) run
      go (some r) = record { done = refl; refusal = refl; left = run }

-- border: the number, the rows done, and the records and places that it leaves
pub border_call : (z : Records) (places : List ℕ) (m : Model) → Runs z places m → (tag : ℕ) (rows bytes : List ℕ) (number done : ℕ) (got : Held) → Ends (store.bordered z places tag rows bytes) number done got
    → (handed number [] (done ∷ []) ≡ reply z.size m (border tag rows bytes)) × Runs (held_records z.size got) got.places (next z.size m (border tag rows bytes))
unfolding reply next
border_call z places m run tag rows bytes number done got e =
    let k = bordered_alike z places m run tag rows bytes in
    (ap₂ (λ (n d : ℕ). handed n [] (d ∷ [])) (e.numbered ∙ ap verdict_number k.refusal) (e.counted ∙ k.done), rw e.left k.left)
