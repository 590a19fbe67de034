-- From a snapshot on records to that on bytes. Assumes nothing.
use Rattle.std.specs.Prelude.{◌≡◌, refl, List, ℕ}
use Rattle.std.proofs.Common.{sym, ◌∙◌, ap}
use Rattle.measures.specs.declared.Size.{Size}
use Rattle.trees.specs.declared.Tree.{Tree}
use Rattle.records.specs.Records.{records_of}
use Rattle.takes.specs.Taking.{SnapshotEnds}
use Rattle.layout.specs.Layout.{size_at, nodes_at, rows_at, stored, loaded, Fits}
use Rattle.host.specs.Host.{Kept}
use Rattle.host.specs.Laws.{host_kept, as_loaded}
use Rattle.host_snapshot.specs.Snapshots.{with_tree, HostSnapshots}

-- the bytes' own nodes and rows are those of the records
same_table : (b : List ℕ) (t : Tree) → records_of (size_at b) t (nodes_at b) (rows_at b) ≡ with_tree (loaded b) t
unfolding loaded
same_table b t = refl

module _ {b : List ℕ} {size : Size} {t : Tree} {node row : List ℕ} (f : Fits b) (e : size ≡ size_at b) (l : records_of (size_at b) t (nodes_at b) row ≡ loaded b) where
  pub snapshot_host : (source new : ℕ) {answer : ℕ} {got : Tree} {b' : List ℕ} → SnapshotEnds (records_of size t node row) source new answer got → node ≡ nodes_at b
      → Kept answer b (stored (records_of (size_at b) got (nodes_at b) (rows_at b))) b' → HostSnapshots b source new answer b'
  snapshot_host source new {answer} {got} {b'} c n d =
      let k : SnapshotEnds (loaded b) source new answer got = rw (sym (as_loaded b e n l)) c in
      host_kept (λ n g. d.refused n) (λ n g. d.accepted n ∙ ap stored (same_table b got) ∙ ap (λ (x : Tree). stored (with_tree (loaded b) x)) g) _ f k
