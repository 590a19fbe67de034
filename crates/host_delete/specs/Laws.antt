-- From a delete on records to that on bytes. Assumes nothing.
use Rattle.std.specs.Prelude.{◌≡◌, List, ℕ, ◌<◌}
use Rattle.std.proofs.Common.{sym, ◌∙◌, ap}
use Rattle.basics.specs.Decide.{at}
use Rattle.measures.specs.declared.Size.{Size}
use Rattle.trees.specs.declared.Tree.{Tree}
use Rattle.records.specs.Records.{records_of}
use Rattle.deletes.specs.Deleting.{Left, DeleteEnds}
use Rattle.layout.specs.Layout.{size_at, nodes_at, stored, loaded, Fits}
use Rattle.layout.specs.Update.{Renoded, loaded_size, loaded_nodes}
use Rattle.host.specs.Host.{Kept}
use Rattle.host.specs.Laws.{host_kept, as_loaded}
use Rattle.host_delete.specs.Deletes.{with_left, HostDeletes}

module _ {b : List ℕ} {size : Size} {t : Tree} {node row : List ℕ} (f : Fits b) (low : (i : ℕ) → at b i < 256) (e : size ≡ size_at b) (l : records_of (size_at b) t (nodes_at b) row ≡ loaded b) where
  -- the nodes were changed where they lie, and then the tree and the rows were stored
  pub delete_host : (tag : ℕ) {answer : ℕ} {got : Left} {b₁ b' : List ℕ} → DeleteEnds (records_of size t node row) tag answer got → node ≡ nodes_at b
      → Renoded b f low got.node b₁ → Kept answer b₁ (stored (records_of (size_at b₁) got.tree (nodes_at b₁) got.row)) b' → HostDeletes b tag answer b'
  delete_host tag {answer} {got} {b₁} {b'} c n r d =
      let k : DeleteEnds (loaded b) tag answer got = rw (sym (as_loaded b e n l)) c in
      host_kept
      (λ y g. d.refused y ∙ r.same (ap (λ (x : Left). x.node) g ∙ loaded_nodes b))
      (λ y g. d.accepted y ∙ rw (r.size, r.nodes, ← loaded_size b) (ap (λ (x : Left). stored (with_left (loaded b) x)) g))
      _ f k
