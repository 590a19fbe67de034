-- What a list of calls leaves is what `left_by` says of it, to the last byte. Assumes nothing.
use Rattle.std.specs.Prelude.{◌≡◌, refl, List, [], ◌∷◌, ℕ}
use Rattle.std.proofs.Common.{sym, ◌∙◌, ap}
use Rattle.std.proofs.Math.Option.{Option, none, some}
use Rattle.basics.specs.Decide.{at}
use Rattle.trees.specs.declared.Tree.{Tree}
use Rattle.records.specs.Records.{Records}
use Rattle.records.specs.Sound.{Sound}
use Rattle.answers.specs.declared.Refusal.{Refusal}
use Rattle.answers.specs.Answers.{Answer}
use Rattle.answers.specs.Tests.{unless}
use Rattle.answers.proofs.Laws.{unless_made}
use Rattle.model.specs.Call.{write, Call, one, border}
use Rattle.model.specs.Model.{Model}
use Rattle.edits.specs.Edits.{with_tree}
use Rattle.takes.specs.Taking.{snapshot_verdict, snapshot_tree}
use Rattle.owning.specs.Owning.{held}
use Rattle.writes.specs.Writing.{write_verdict, written}
use Rattle.borders.proofs.BorderingWays.{bordered_none}
use Rattle.deletes.specs.Deleting.{Left, left, delete_verdict, deleted}
use Rattle.reads.specs.Reads.{row_of_tag}
use Rattle.wrote.specs.Wrote.{written_as_read}
use Rattle.steps.specs.Calls.{Runs}
use Rattle.theorem.specs.Trace.{State, state, state_held, state_left, CallEnds, snapshot_ends, read_ends, write_ends, border_ends, delete_ends, count_ends, Trace, over, then, leaves, left_by}
use Rattle.theorem.proofs.Theorem.{one_call}

-- one call on sound records
pub call_leaves : {z : Records} {places : List ℕ} {c : Call} {h : Answer} {s' : State} → Sound z → CallEnds z places c h s' → s' ≡ leaves (state z places) c
unfolding leaves
call_leaves {z} {places} k (snapshot_ends {source = source} {new = new} e) =
    rw (e.sound k).left (unless_made (λ (t : Tree). state (with_tree z t) places) (snapshot_verdict z source new) z.tree (snapshot_tree z.tree source new))
call_leaves k (read_ends e) = refl
call_leaves {z} {places} k (write_ends {tag = tag} {r = r} {bs = bs} e) =
    rw (e.sound k).left (unless_made (state_held z.size) (write_verdict z places tag r bs) (held z.tree z.node z.row places) (written z places tag r bs))
call_leaves {z} {places} k (delete_ends {tag = tag} e) =
    rw (e.sound k).left (unless_made (λ (l : Left). state_left z.size l places) (delete_verdict z tag) (left z.tree z.node z.row) (deleted z tag))
call_leaves k (count_ends e) = refl
call_leaves {z} k (border_ends e) = ap (state_held z.size) (e.sound k).left

-- a write of the bytes that the version reads there
pub leaves_untouched : (s : State) (tag r : ℕ) (bs : List ℕ) → bs ≡ row_of_tag s.records s.places tag r → leaves s (one (write tag r bs)) ≡ s
unfolding leaves row_of_tag
leaves_untouched s tag r bs e = rw (written_as_read s.records s.places tag r bs e) (go (write_verdict s.records s.places tag r bs))
  where
    go : (v : Option Refusal) → unless v (λ x. s) s ≡ s
    go none = refl
    go (some x) = refl

-- a border that did no row
pub leaves_none : {z : Records} {places : List ℕ} {tag : ℕ} {rows bytes : List ℕ} {h : Answer} {s' : State} → Sound z → CallEnds z places (border tag rows bytes) h s' → h.numbers ≡ 0 ∷ [] → s' ≡ state z places
leaves_none {z} {places} {tag} {rows} {bytes} k (border_ends {done = done} e) none_done =
    let n : done ≡ 0 = ap (λ (ns : List ℕ). at ns 0) none_done in
    ap (state_held z.size) ((e.sound k).left ∙ bordered_none z places tag rows bytes (sym (e.sound k).counted ∙ n))

-- any list of calls on a store that runs
pub list_leaves : {s s' : State} {m : Model} {cs : List Call} {hs : List Answer} → Runs s.records s.places m → Trace s cs hs s' → s' ≡ left_by s cs
unfolding left_by
list_leaves run over = refl
list_leaves run (then {cs = cs} k rest) = list_leaves (one_call run k).2 rest ∙ rw (call_leaves run.store.sound k)
