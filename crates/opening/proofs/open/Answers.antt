-- `opening::open` meets its contract: each return cites the law of its test. Assumes nothing.
use mathlib.Core.Path.{◌≡◌, refl}
use Rattle.std.specs.Prelude.{length, replicate}
use Rattle.std.proofs.lemmas.Grind.{common_steps}
use native.Mathlib.Omega.{arith}
use Rattle.opening.specs.Laws.{opening_refused, opening_done, size_refused, places_refused, nodes_refused, rows_refused, accepted}
use Rattle.answers.specs.declared.Refusal.TheVariants.{BadSize, BadLength}
use Rattle.measures.specs.Measures.{Within}
use Rattle.basics.specs.Decide.{holds}
use Rattle.basics.specs.Decide.{fails}
use Rattle.opening.proofs.open.Goals as goal
use Rattle.opening.proofs.open.Goals.{then-places-size-via-then-places-size, then-places-size-via-else-places-size+then-node-entries, then-places-size-via-else-places-size+else-node-entries+then-row-entries}

pub returns-then-not-within : goal.returns-then-not-within
returns-then-not-within c = opening_refused _ _ _ _ BadSize (size_refused _ _ _ _ (fails c.within.result c.within.ensures c.if-not-within.true)) _ _ refl refl

pub returns-then-places-size : goal.returns-then-places-size
returns-then-places-size c = let sized : Within c.args.size = holds c.within.result c.within.ensures c.if-not-within.false in
    elim c.then-places-size.branch [
      | then-places-size-via-then-places-size w ↦ opening_refused _ _ _ _ BadLength (places_refused _ _ _ _ (sized) w.if-places-size.true) _ _ refl refl
      | then-places-size-via-else-places-size+then-node-entries w ↦ opening_refused _ _ _ _ BadLength (nodes_refused _ _ _ _ (sized) w.if-places-size.false w.if-node-entries.true) _ _ refl refl
      | then-places-size-via-else-places-size+else-node-entries+then-row-entries w ↦ opening_refused _ _ _ _ BadLength (rows_refused _ _ _ _ (sized) w.if-places-size.false w.if-node-entries.false w.if-row-entries.true) _ _ refl refl
    ]

pub returns : goal.returns
returns c = let sized : Within c.args.size = holds c.within.result c.within.ensures c.if-not-within.false in
    let zeros : c.fill.new.self ≡ replicate (length c.args.row.now) 0 = grind (arith, common_steps) in
    opening_done _ _ _ _ (accepted _ _ _ _ (sized) c.if-places-size.false c.if-node-entries.false c.if-row-entries.false) _ _ _ _ c.first_tree.ensures c.clear.ensures c.clear-2.ensures zeros
