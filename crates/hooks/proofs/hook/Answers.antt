-- `hooks::hook` meets its contract. Assumes nothing.
use native.Mathlib.Omega.{arith}
use mathlib.Core.Path.{◌∙◌}
use Rattle.hooks.proofs.Laws.{hook_below}
use Rattle.hooks.proofs.hook.Goals as goal

pub returns : goal.returns
returns c = let e = c.from.ensures ∙ c.requires.0.rule c.args.n c.requires.1 in
    (e, omega (arith, e, hook_below c.args.n c.requires.1))
