-- From a border on records to that on bytes. Assumes nothing.
use Rattle.std.specs.Prelude.{◌≡◌, List, ℕ, ◌<◌}
use Rattle.std.proofs.Common.{sym, ◌∙◌, ap, ap₂, eq-eqb, ne_eqb}
use Rattle.std.proofs.Math.Logic.{by_cases}
use Rattle.std.proofs.Math.Decide.{ℕ_discrete}
use Rattle.basics.specs.Decide.{at}
use Rattle.measures.specs.declared.Size.{Size}
use Rattle.trees.specs.declared.Tree.{Tree}
use Rattle.records.specs.Records.{Records, records_of}
use Rattle.answers.specs.declared.Refusal.TheVariants.{Unsound}
use Rattle.answers.specs.InOrder.{Ended, stopped}
use Rattle.owning.specs.Owning.{Held, held}
use Rattle.borders.specs.Bordering.{Ends, BorderEnds}
use Rattle.borders.proofs.BorderingWays.{bordered_none}
use Rattle.layout.specs.Layout.{size_at, nodes_at, stored, loaded, Fits}
use Rattle.layout.specs.Update.{Renoded, loaded_size, loaded_nodes}
use Rattle.host.specs.Host.{Lent}
use Rattle.host.specs.Laws.{host_judged, as_loaded}
use Rattle.host_border.specs.Borders.{bytes_after, lent_as, HostBorders}

abbrev stored_of : Records → Held → List ℕ
stored_of z h = stored (records_of z.size h.tree h.node h.row)

-- what a border left, as bytes
module _ (b : List ℕ) (z : Records) {e : Ended Held} {number done : ℕ} {got : Held} {b' : List ℕ} (k : Ends e number done got) (s : b' ≡ bytes_after b done (stored_of z got)) where
  as_bytes : Ends (lent_as b z e) number done (b', got.places)
  as_bytes = record {
    numbered = k.numbered;
    counted = k.counted;
    left = ap (λ (x : List ℕ). (x, got.places)) s ∙ ap₂ (λ (n : ℕ) (h : Held). (bytes_after b n (stored_of z h), h.places)) k.counted k.left;
  }

-- and where none was judged, nothing is changed
as_none : (b places new : List ℕ) {tree : Tree} {node row : List ℕ} {number done : ℕ} {got : Held} {b' : List ℕ} → Ends (stopped (held tree node row places) Unsound) number done got → b' ≡ bytes_after b done new
    → Ends {S = Lent} (stopped (b, places) Unsound) number done (b', got.places)
as_none b places new {done = done} k s = record {
  numbered = k.numbered;
  counted = k.counted;
  left = ap₂ (λ (x : List ℕ) (h : Held). (x, h.places)) (s ∙ rw (eq-eqb done 0 k.counted)) k.left;
}

module _ {b : List ℕ} {size : Size} {t : Tree} {node row : List ℕ} (f : Fits b) (low : (i : ℕ) → at b i < 256) (e : size ≡ size_at b) (l : records_of (size_at b) t (nodes_at b) row ≡ loaded b) where
  -- the nodes were changed where they lie, and then the tree and the rows were stored, unless no row was done
  pub border_host : (places : List ℕ) (tag : ℕ) (rows bytes : List ℕ) {number done : ℕ} {got : Held} {b₁ b' : List ℕ} → BorderEnds (records_of size t node row) places tag rows bytes number done got → node ≡ nodes_at b
      → Renoded b f low got.node b₁ → b' ≡ bytes_after b₁ done (stored (records_of (size_at b₁) got.tree (nodes_at b₁) got.row)) → HostBorders b places tag rows bytes number done (b', got.places)
  border_host places tag rows bytes {number} {done} {got} {b₁} {b'} c n m d =
      let k : BorderEnds (loaded b) places tag rows bytes number done got = rw (sym (as_loaded b e n l)) c in
      host_judged f (record {
        sound = λ y.
            let x = k.sound y in
            as_bytes b (loaded b) x (anew (λ z. ap (λ (h : Held). h.node) (x.left ∙ bordered_none (loaded b) places tag rows bytes (sym x.counted ∙ z))));
        unsound = λ y.
            let x = k.unsound y in
            as_none b places (stored_of (loaded b) got) x (anew (λ z. ap (λ (h : Held). h.node) x.left));
      })
    where
      anew : (done ≡ 0 → got.node ≡ (loaded b).node) → b' ≡ bytes_after b done (stored_of (loaded b) got)
      anew h = by_cases (ℕ_discrete done 0)
          (λ z. d ∙ rw (eq-eqb done 0 z) (m.same (h z ∙ loaded_nodes b)))
          (λ z. d ∙ rw (ne_eqb done 0 z, m.size, m.nodes, ← loaded_size b))
