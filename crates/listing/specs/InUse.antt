-- What the nodes in use say as a value. Assumes nothing.
use Rattle.listing.specs.declared.NodesInUse.{NodesInUse}
use Rattle.listing.specs.Listed.{Listed}

pub listed_in : (x : NodesInUse) → Listed x.tree.now.state x.used.now
listed_in x = record { few = x.few; each = x.each; all = x.all; apart = x.apart }
