-- `ordering::lined_up` meets its contract: an empty queue is one of nodes. Assumes nothing.
use Rattle.table.proofs.Laws.{nodes_none}
use Rattle.ordering.proofs.lined_up.Goals as goal

pub invariant_of-queue-clause-nodes : goal.invariant_of-queue-clause-nodes
invariant_of-queue-clause-nodes c = nodes_none
