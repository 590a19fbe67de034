-- `queries::read` meets its contract: each return cites the law of its test. Assumes nothing.
use mathlib.Core.Path.{◌≡◌, sym, ◌∙◌}
use mathlib.Core.Option.{some}
use Prim.Native.Nat.{◌<◌}
use Rattle.records.specs.Lent.{seen}
use Rattle.trees.specs.Trees.{version}
use Rattle.records.specs.Sound.{Sound}
use Rattle.tree.specs.Rules.{found_at, found_missing}
use Rattle.soundness.specs.Judged.{judged_unsound}
use Rattle.reads.proofs.Laws.{nothing, read_length, read_row, read_tag, read_done, version_used, looking, read_inside}
use Rattle.basics.specs.Decide.{holds}
use Rattle.basics.specs.Decide.{fails}
use Rattle.queries.proofs.read.Goals as goal

pub returns-then-not-sound-clause-part : goal.returns-then-not-sound-clause-part
returns-then-not-sound-clause-part c = judged_unsound (fails c.sound.result c.sound.ensures c.if-not-sound.true) (nothing _).1

pub returns-then-places-size-clause-ends : goal.returns-then-places-size-clause-ends
returns-then-places-size-clause-ends c = let judged : Sound (seen c.args.view.now) = holds c.sound.result c.sound.ensures c.if-not-sound.false in
    (read_length _ _ _ _ (judged) c.if-places-size.true (nothing (0, 0))).0

pub returns-then-places-size-clause-part : goal.returns-then-places-size-clause-part
returns-then-places-size-clause-part c = let judged : Sound (seen c.args.view.now) = holds c.sound.result c.sound.ensures c.if-not-sound.false in
    (read_length _ _ _ _ (judged) c.if-places-size.true (nothing _)).1

pub returns-then-not-is_below-clause-ends : goal.returns-then-not-is_below-clause-ends
returns-then-not-is_below-clause-ends c = let judged : Sound (seen c.args.view.now) = holds c.sound.result c.sound.ensures c.if-not-sound.false in
    (read_row _ _ _ _ (judged) c.if-places-size.false (fails c.is_below.result c.is_below.ensures c.if-not-is_below.true) (nothing (0, 0))).0

pub returns-then-not-is_below-clause-part : goal.returns-then-not-is_below-clause-part
returns-then-not-is_below-clause-part c = let judged : Sound (seen c.args.view.now) = holds c.sound.result c.sound.ensures c.if-not-sound.false in
    (read_row _ _ _ _ (judged) c.if-places-size.false (fails c.is_below.result c.is_below.ensures c.if-not-is_below.true) (nothing _)).1

pub returns-in_default-clause-ends : goal.returns-in_default-clause-ends
returns-in_default-clause-ends c = let judged : Sound (seen c.args.view.now) = holds c.sound.result c.sound.ensures c.if-not-sound.false in
    (read_tag _ _ _ _ (judged) c.if-places-size.false (holds c.is_below.result c.is_below.ensures c.if-not-is_below.false)
    (found_missing (version c.args.view.now.tree.now c.args.tag) (sym c.in_default.is ∙ c.version.ensures)) (nothing (0, 0))).0

pub returns-in_default-clause-part : goal.returns-in_default-clause-part
returns-in_default-clause-part c = let judged : Sound (seen c.args.view.now) = holds c.sound.result c.sound.ensures c.if-not-sound.false in
    (read_tag _ _ _ _ (judged) c.if-places-size.false (holds c.is_below.result c.is_below.ensures c.if-not-is_below.false)
    (found_missing (version c.args.view.now.tree.now c.args.tag) (sym c.in_default.is ∙ c.version.ensures)) (nothing _)).1

pub lookup-looked-requires : goal.lookup-looked-requires
lookup-looked-requires c = let judged : Sound (seen c.args.view.now) = holds c.sound.result c.sound.ensures c.if-not-sound.false in
    let known : (let a = c.args in version a.view.now.tree.now a.tag ≡ some c.in-Some.n) = let a = c.args in
    found_at (version a.view.now.tree.now a.tag) _ (sym c.in-Some.is ∙ c.version.ensures) in
    rw c.entries.ensures (looking _ (judged) _ _ (known))

pub part-requires : goal.part-requires
part-requires c = let judged : Sound (seen c.args.view.now) = holds c.sound.result c.sound.ensures c.if-not-sound.false in
    let known : (let a = c.args in version a.view.now.tree.now a.tag ≡ some c.in-Some.n) = let a = c.args in
    found_at (version a.view.now.tree.now a.tag) _ (sym c.in-Some.is ∙ c.version.ensures) in
    let low : (let a = c.args in a.r.0 < a.view.now.size.rows) = holds c.is_below.result c.is_below.ensures c.if-not-is_below.false in
    rw (c.lookup-looked.ensures.place, c.entries.ensures) (read_inside _ (judged) _ c.if-places-size.false _ _ (version_used _ _ _ (known)) (low))

pub returns-clause-ends : goal.returns-clause-ends
returns-clause-ends c = let judged : Sound (seen c.args.view.now) = holds c.sound.result c.sound.ensures c.if-not-sound.false in
    let known : (let a = c.args in version a.view.now.tree.now a.tag ≡ some c.in-Some.n) = let a = c.args in
    found_at (version a.view.now.tree.now a.tag) _ (sym c.in-Some.is ∙ c.version.ensures) in
    let low : (let a = c.args in a.r.0 < a.view.now.size.rows) = holds c.is_below.result c.is_below.ensures c.if-not-is_below.false in
    let f = rw (c.lookup-looked.ensures.place, c.entries.ensures) at c.part.ensures in
    (read_done _ _ _ _ (judged) c.if-places-size.false (low) _ (known) f.0 f.1 (rw c.entries.ensures at c.lookup-looked.ensures.sharers)).0

pub returns-clause-part : goal.returns-clause-part
returns-clause-part c = let judged : Sound (seen c.args.view.now) = holds c.sound.result c.sound.ensures c.if-not-sound.false in
    let known : (let a = c.args in version a.view.now.tree.now a.tag ≡ some c.in-Some.n) = let a = c.args in
    found_at (version a.view.now.tree.now a.tag) _ (sym c.in-Some.is ∙ c.version.ensures) in
    let low : (let a = c.args in a.r.0 < a.view.now.size.rows) = holds c.is_below.result c.is_below.ensures c.if-not-is_below.false in
    let f = rw (c.lookup-looked.ensures.place, c.entries.ensures) at c.part.ensures in
    (read_done _ _ _ _ (judged) c.if-places-size.false (low) _ (known) f.0 f.1 (rw c.entries.ensures at c.lookup-looked.ensures.sharers)).1
