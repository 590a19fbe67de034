-- Living nodes are in use, and every exception has a living node that reads it. Assumes nothing.
use Rattle.std.specs.Prelude.{◌≡◌, ◌≢◌, ℕ, ◌+◌, ◌<◌, length}
use Rattle.std.proofs.Common.{sym, arith}
use Rattle.std.proofs.Math.Option.{some}
use Rattle.basics.specs.Decide.{at}
use Rattle.trees.specs.declared.Tree.{Tree}
use Rattle.records.specs.Records.{Records, table}
use Rattle.trees.specs.Trees.{InUse, Alive, version}
use Rattle.trees.specs.Reading.{place}
use Rattle.records.specs.Sound.{Sound}
use Rattle.tree.specs.Nodes.{version_alive}
use Rattle.reading.specs.Reads.{reads_place}

pub alive_used : (t : Tree) (n : ℕ) → Alive t n → InUse t n
alive_used t n a = (a.0, omega (arith, a.1))

pub version_used : (t : Tree) (u n : ℕ) → version t u ≡ some n → InUse t n
version_used t u n e = alive_used t n (version_alive t u n e).0

-- a living node that reads the exception at entry j
abbrev pub Reader : Records → ℕ → ℕ → Type 0
Reader z j n = Alive z.tree n × (place z.tree (table z) n (at z.row j) ≡ z.size.rows + j)

pub has_reader : (z : Records) → Sound z → (j : ℕ) → j < length z.node → at z.node j ≢ 0 → (n : ℕ) × Reader z j n
has_reader z s j l f =
    let (n, a, d) = s.all_read j l f in
    (n, (a, sym ((reads_place z.tree s.linked (table z) s.excepting n (at z.row j) (z.size.rows + j) (alive_used z.tree n a)).0 d)))
