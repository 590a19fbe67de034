-- `guessing::kin` meets its contract: no node has a child at first. Assumes nothing.
use Rattle.table.proofs.Laws.{nodes_none}
use Rattle.guessing.proofs.kin.Goals as goal

pub invariant_of-kin : goal.invariant_of-kin
invariant_of-kin c = record { first_nodes = nodes_none; after_nodes = nodes_none }
