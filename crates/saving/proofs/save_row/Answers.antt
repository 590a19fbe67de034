-- `saving::save_row` meets its contract: the old bytes are saved before the origin's place is written. Assumes nothing.
use mathlib.Core.Path.{◌∙◌}
use native.Mathlib.Omega.{arith}
use Rattle.owning.specs.Laws.{narrow_row, row_entry, held_same}
use Rattle.saving.specs.Saving.{saving}
use Rattle.nodes.specs.Nodes.{child_some}
use Rattle.tree.specs.Rules.{found_at}
use Rattle.saving.proofs.save_row.Goals as goal

pub enter-requires : goal.enter-requires
enter-requires c = (c.requires.1.0, row_entry c.requires.0 c.args.i c.requires.1, omega (arith, (child_some _ _ _ (found_at _ _ c.in-Some.ensures)).1.0), narrow_row c.requires.0)

pub returns-clause-saved : goal.returns-clause-saved
unfolding saving
returns-clause-saved c = let e = c.enter.ensures.entered in
    rw (found_at _ _ c.in-Some.ensures) (held_same c.enter.ensures.kept e.0 e.1 (c.renew.ensures ∙ rw (c.held.ensures, c.home.ensures)))
