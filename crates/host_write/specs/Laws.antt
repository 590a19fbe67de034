-- From a write on records to that on bytes. Assumes nothing.
use Rattle.std.specs.Prelude.{◌≡◌, List, ℕ, ◌<◌}
use Rattle.std.proofs.Common.{sym, ◌∙◌, ap, ap₂}
use Rattle.basics.specs.Decide.{at}
use Rattle.measures.specs.declared.Size.{Size}
use Rattle.trees.specs.declared.Tree.{Tree}
use Rattle.records.specs.Records.{records_of}
use Rattle.owning.specs.Owning.{Held}
use Rattle.writes.specs.Writing.{WriteEnds}
use Rattle.layout.specs.Layout.{size_at, nodes_at, stored, loaded, Fits}
use Rattle.layout.specs.Update.{Renoded, loaded_size, loaded_nodes}
use Rattle.host.specs.Host.{Kept}
use Rattle.host.specs.Laws.{host_kept, as_loaded}
use Rattle.host_write.specs.Writes.{held_as, HostWrites}

module _ {b : List ℕ} {size : Size} {t : Tree} {node row : List ℕ} (f : Fits b) (low : (i : ℕ) → at b i < 256) (e : size ≡ size_at b) (l : records_of (size_at b) t (nodes_at b) row ≡ loaded b) where
  -- the nodes were changed where they lie, and then the tree and the rows were stored
  pub write_host : (places : List ℕ) (tag r : ℕ) (bs : List ℕ) {answer : ℕ} {got : Held} {b₁ b' : List ℕ} → WriteEnds (records_of size t node row) places tag r bs answer got → node ≡ nodes_at b
      → Renoded b f low got.node b₁ → Kept answer b₁ (stored (records_of (size_at b₁) got.tree (nodes_at b₁) got.row)) b' → HostWrites b places tag r bs answer (b', got.places)
  write_host places tag r bs {answer} {got} {b₁} {b'} c n m d =
      let k : WriteEnds (loaded b) places tag r bs answer got = rw (sym (as_loaded b e n l)) c in
      let s : answer ≡ 0 → b' ≡ stored (records_of (loaded b).size got.tree got.node got.row) = λ y. d.accepted y ∙ rw (m.size, m.nodes, ← loaded_size b) in
      host_kept
      (λ y g. ap₂ (λ (x : List ℕ) (h : Held). (x, h.places)) (d.refused y ∙ m.same (ap (λ (h : Held). h.node) g ∙ loaded_nodes b)) g)
      (λ y g. ◌∙◌ {b = held_as (loaded b) got} (ap (λ (x : List ℕ). (x, got.places)) (s y)) (ap (held_as (loaded b)) g))
      _
      f
      k
