-- From a count on records to that on bytes. Assumes nothing.
use Rattle.std.specs.Prelude.{◌≡◌, List, ℕ}
use Rattle.std.proofs.Common.{sym}
use Rattle.measures.specs.declared.Size.{Size}
use Rattle.trees.specs.declared.Tree.{Tree}
use Rattle.records.specs.Records.{records_of}
use Rattle.counting.specs.Counting.{CountEnds}
use Rattle.layout.specs.Layout.{size_at, nodes_at, loaded, Fits}
use Rattle.host.specs.Laws.{host_judged, as_loaded}
use Rattle.host_count.specs.Counts.{HostCounts}

module _ {b : List ℕ} {size : Size} {t : Tree} {node row : List ℕ} (f : Fits b) (e : size ≡ size_at b) (l : records_of (size_at b) t (nodes_at b) row ≡ loaded b) where
  pub count_host : {answer in_use alive : ℕ} → CountEnds (records_of size t node row) answer in_use alive → node ≡ nodes_at b → HostCounts b answer in_use alive
  count_host {answer} {in_use} {alive} c n = let k : CountEnds (loaded b) answer in_use alive = rw (sym (as_loaded b e n l)) c in host_judged f k
