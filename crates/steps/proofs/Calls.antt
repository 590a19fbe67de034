-- The step theorems, from the very promises of the functions that run: where a store agrees with the reference model before a call, what the
-- call answers is what the model answers, and what it leaves agrees with the model after the call. Assumes nothing.
use Rattle.std.specs.Prelude.{◌≡◌, List, [], ◌∷◌, ℕ}
use Rattle.std.proofs.Common.{◌∙◌}
use Rattle.trees.specs.declared.Tree.{Tree}
use Rattle.records.specs.Records.{Records}
use Rattle.model.specs.Call.{snapshot, read, write, delete, count}
use Rattle.answers.specs.Answers.{handed}
use Rattle.answers.proofs.Laws.{plain}
use Rattle.model.specs.Model.{Model, answer, after}
use Rattle.agreement.proofs.Steps.{step_agree}
use Rattle.soundness.specs.Judged.{Leaves}
use Rattle.edits.specs.Edits.{with_tree}
use Rattle.counting.specs.Counting.{counted, count_answer}
use Rattle.reads.specs.Reads.{read_answer}
use Rattle.view.proofs.Queried.{read_step, count_step}
use Rattle.takes.specs.Taking.{snapshot_verdict, snapshot_tree}
use Rattle.owning.specs.Owning.{Held, held}
use Rattle.writes.specs.Writing.{write_verdict, written}
use Rattle.took.specs.Took.{snapshot_whole}
use Rattle.steps.specs.Snapshotted.{snapshot_step, snapshot_store}
use Rattle.deletes.specs.Deleting.{Left, left, delete_verdict, deleted}
use Rattle.removed.specs.Removed.{left_records}
use Rattle.steps.specs.Removed.{delete_step, delete_store, delete_whole}
use Rattle.wrote.specs.Wrote.{held_records}
use Rattle.steps.specs.Wrote.{write_step, write_store, write_whole}
use Rattle.steps.specs.Calls.{Runs}

module _ (z : Records) (places : List ℕ) (m : Model) (run : Runs z places m) where
  -- read: the number, the row and how many share it are the model's, and nothing has changed
  pub read_call : (tag r number : ℕ) (bytes : List ℕ) (sharers : ℕ) → handed number bytes (sharers ∷ []) ≡ read_answer z places tag r
      → (handed number bytes (sharers ∷ []) ≡ answer z.size m (read tag r)) × Runs z places (after z.size m (read tag r))
  read_call tag r number bytes sharers h =
      let (e, a) = step_agree z.size run.agrees (read tag r) (read_step z places run.store tag r) in
      (h ∙ e, record { store = run.store; whole = run.whole; agrees = a })

  -- count: the number and the two counts
  pub count_call : (number in_use alive : ℕ) → counted number in_use alive ≡ count_answer z
      → (counted number in_use alive ≡ answer z.size m count) × Runs z places (after z.size m count)
  count_call number in_use alive g =
      let (e, a) = step_agree z.size run.agrees count (count_step z places run.store) in
      (g ∙ e, record { store = run.store; whole = run.whole; agrees = a })

  -- snapshot: the number, and the tree that it leaves
  pub snapshot_call : (source new number : ℕ) (tree : Tree) → Leaves (snapshot_verdict z source new) z.tree (snapshot_tree z.tree source new) number tree
      → (handed number [] [] ≡ answer z.size m (snapshot source new)) × Runs (with_tree z tree) places (after z.size m (snapshot source new))
  snapshot_call source new number tree l =
      let (e, a) = step_agree z.size run.agrees (snapshot source new) (snapshot_step z places run.store source new run.whole) in (
        plain (snapshot_verdict z source new) l.numbered ∙ e,
        rw l.left (record { store = snapshot_store z places run.store source new run.whole; whole = snapshot_whole z source new run.whole; agrees = a }),
      )

  -- write: the number, and the records and places that it leaves
  pub write_call : (tag r number : ℕ) (bs : List ℕ) (got : Held) → Leaves (write_verdict z places tag r bs) (held z.tree z.node z.row places) (written z places tag r bs) number got
      → (handed number [] [] ≡ answer z.size m (write tag r bs)) × Runs (held_records z.size got) got.places (after z.size m (write tag r bs))
  write_call tag r number bs got l =
      let (e, a) = step_agree z.size run.agrees (write tag r bs) (write_step z places run.store run.whole tag r bs) in (
        plain (write_verdict z places tag r bs) l.numbered ∙ e,
        rw l.left (record { store = write_store z places run.store run.whole tag r bs; whole = write_whole z places run.store run.whole tag r bs; agrees = a }),
      )

  -- delete: the number, and the records that it leaves
  pub delete_call : (tag number : ℕ) (got : Left) → Leaves (delete_verdict z tag) (left z.tree z.node z.row) (deleted z tag) number got
      → (handed number [] [] ≡ answer z.size m (delete tag)) × Runs (left_records z.size got) places (after z.size m (delete tag))
  delete_call tag number got l =
      let (e, a) = step_agree z.size run.agrees (delete tag) (delete_step z places run.store run.whole tag) in (
        plain (delete_verdict z tag) l.numbered ∙ e,
        rw l.left (record { store = delete_store z places run.store run.whole tag; whole = delete_whole z places run.store run.whole tag; agrees = a }),
      )
