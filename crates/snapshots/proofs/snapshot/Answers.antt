-- `snapshots::snapshot` meets its contract: each return cites the law of its test. Assumes nothing.
use mathlib.Core.Path.{◌≡◌, sym, ◌∙◌}
use mathlib.Core.Option.{some, none}
use native.Mathlib.Omega.{arith}
use Rattle.takes.proofs.Laws.{zero_refused, source_refused, alive_refused, full_refused, accepted, room, tree_of_source}
use Rattle.soundness.specs.Judged.{judged_sound, leaves_refused, leaves_done}
use Rattle.tree.specs.Nodes.{version_alive}
use Rattle.tree.specs.Rules.{found_at, found_missing}
use Rattle.answers.specs.declared.Refusal.TheVariants.{ZeroTag, UnknownTag, TagAlive, SnapshotsFull}
use Rattle.records.specs.Sound.{Sound}
use Rattle.records.specs.Lent.{seen}
use Rattle.trees.specs.Trees.{version}
use Rattle.basics.specs.Decide.{holds}
use Rattle.snapshots.proofs.snapshot.Goals as goal

pub returns-then-new-eq0 : goal.returns-then-new-eq0
returns-then-new-eq0 c = let judged : Sound (seen c.args.view.now) = holds c.sound.result c.sound.ensures c.if-not-sound.false in
    judged_sound (judged) (leaves_refused ZeroTag (zero_refused _ _ _ c.if-new-eq0.true))

pub returns-in_default : goal.returns-in_default
returns-in_default c = let judged : Sound (seen c.args.view.now) = holds c.sound.result c.sound.ensures c.if-not-sound.false in
    let a = c.args in
    judged_sound (judged) (leaves_refused UnknownTag (source_refused _ _ _ c.if-new-eq0.false (found_missing (version a.view.now.tree.now a.source) (sym c.in_default.is ∙ c.version.ensures))))

pub returns-in-Some-version : goal.returns-in-Some-version
returns-in-Some-version c = let judged : Sound (seen c.args.view.now) = holds c.sound.result c.sound.ensures c.if-not-sound.false in
    let known : (let a = c.args in version a.view.now.tree.now a.source ≡ some c.in-Some.v) = let a = c.args in
    found_at (version a.view.now.tree.now a.source) _ (sym c.in-Some.is ∙ c.version.ensures) in
    let a = c.args in
    judged_sound (judged) (leaves_refused TagAlive (alive_refused _ _ _ c.if-new-eq0.false _ (known) _ (found_at (version a.view.now.tree.now a.new) _ (sym c.in-Some-version.is ∙ c.version-2.ensures))))

pub returns-then-snapshots-ge64 : goal.returns-then-snapshots-ge64
returns-then-snapshots-ge64 c = let judged : Sound (seen c.args.view.now) = holds c.sound.result c.sound.ensures c.if-not-sound.false in
    let known : (let a = c.args in version a.view.now.tree.now a.source ≡ some c.in-Some.v) = let a = c.args in
    found_at (version a.view.now.tree.now a.source) _ (sym c.in-Some.is ∙ c.version.ensures) in
    let fresh : (let a = c.args in version a.view.now.tree.now a.new ≡ none) = let a = c.args in
    found_missing (version a.view.now.tree.now a.new) (sym c.in_default-version.is ∙ c.version-2.ensures) in
    judged_sound (judged) (leaves_refused SnapshotsFull (full_refused _ _ _ c.if-new-eq0.false _ (known) (fresh) (omega (arith, c.if-snapshots-ge64.true, c.snapshots.ensures))))

pub with_snapshot-requires : goal.with_snapshot-requires
with_snapshot-requires c = let judged : Sound (seen c.args.view.now) = holds c.sound.result c.sound.ensures c.if-not-sound.false in
    let known : (let a = c.args in version a.view.now.tree.now a.source ≡ some c.in-Some.v) = let a = c.args in
    found_at (version a.view.now.tree.now a.source) _ (sym c.in-Some.is ∙ c.version.ensures) in
    ((version_alive _ _ _ (known)).0.0, room _ (judged) (omega (arith, c.if-snapshots-ge64.false, c.snapshots.ensures)))

pub returns : goal.returns
returns c = let judged : Sound (seen c.args.view.now) = holds c.sound.result c.sound.ensures c.if-not-sound.false in
    let known : (let a = c.args in version a.view.now.tree.now a.source ≡ some c.in-Some.v) = let a = c.args in
    found_at (version a.view.now.tree.now a.source) _ (sym c.in-Some.is ∙ c.version.ensures) in
    let fresh : (let a = c.args in version a.view.now.tree.now a.new ≡ none) = let a = c.args in
    found_missing (version a.view.now.tree.now a.new) (sym c.in_default-version.is ∙ c.version-2.ensures) in
    judged_sound (judged) (leaves_done (accepted _ _ _ c.if-new-eq0.false _ (known) (fresh) (omega (arith, c.if-snapshots-ge64.false, c.snapshots.ensures))) (c.with_snapshot.ensures ∙ sym (tree_of_source _ _ _ _ (known))))
