-- `tree::version` meets its contract: a tag that no node has is no version's. Assumes nothing.
use mathlib.Core.Path.{◌≡◌}
use lib.ListN.{length}
use Rattle.basics.specs.Decide.{fails}
use Rattle.tree.specs.Loops.{version_none}
use borrow.Author.Rules.{rules}
use Rattle.tree.proofs.version.Goals as goal

pub returns-then-not-among : goal.returns-then-not-among
returns-then-not-among c = let a = c.args in
    let long : length a.tree.now.tag ≡ 128 = search rules in
    rw (version_none (a.tree.now) a.wanted (λ n l e. fails c.among.result c.among.ensures c.if-not-among.true (n, (rw long l), e)))
