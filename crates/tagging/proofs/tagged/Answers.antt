-- `tagging::tagged` meets its contract: the number of snapshots, then node by node of the list. Assumes nothing.
use Rattle.listing.specs.InUse.{listed_in}
use Rattle.tagging.specs.Tags.{tags_at_lem}
use Rattle.basics.specs.Decide.{fails}
use Rattle.tagging.proofs.tagged.Goals as goal

pub returns-then-not-tag_read : goal.returns-then-not-tag_read
returns-then-not-tag_read c = λ g.
    fails c.tag_read.result c.tag_read.ensures.decided c.if-not-tag_read.true (tags_at_lem _ _ c.requires (listed_in c.args.nodes.now) g _ c.loop-j-test.true)
