-- `tagging::tagged` meets its contract: the number of snapshots, then node by node of the list. Assumes nothing.
use Rattle.faults.specs.Faults.{Below}
use Rattle.tagging.specs.Tags.{TagAt, Seen}
use Rattle.tagging.proofs.tagged.Given as goal

abbrev pub invariant-loop-j : goal.invariant-loop-j
invariant-loop-j l = Below (TagAt l.nodes.tree.now l.nodes.used.now) l.j × Seen l.nodes.tree.now l.nodes.used.now l.seen l.j
