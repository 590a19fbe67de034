-- Bytes of records with one part laid anew: the tree, the nodes or the rows. Assumes nothing.
use Rattle.std.specs.Prelude.{◌≡◌, ℕ, ◌+◌, ◌-◌, ◌*◌, ◌≤◌, ◌<◌, take, drop}
use Rattle.std.proofs.Math.Path.{refl, sym, ap}
use Rattle.std.proofs.Common.{◌∙◌, arith, take_at, drop_at, drop-drop}
use mathlib.Core.List.{List, [], ◌∷◌, ◌++◌, append_assoc, append-nil}
use Rattle.std.proofs.Math.ListN.{length, length-append, length-drop}
use Rattle.std.proofs.Math.Seq.{length-take-le}
use Rattle.basics.specs.Decide.{at}
use Rattle.trees.specs.declared.Tree.{Tree}
use Rattle.records.specs.Records.{Records, records_of}
use Rattle.laying.specs.Laid.{laid, Lays, twos, pairs}
use Rattle.laying.specs.Laws.{pairs_size, numbers_size, lays_part}
use Rattle.layout.specs.Layout.{states_at, table_at, entries, tree_bytes, table_bytes, stored, size_at, nodes_at, rows_at, loaded, Fits}
use Rattle.layout.specs.Laws.{tree_size}
use Rattle.layout.specs.Back.{Storable, stored_fits, stored_measures, loaded_stored, stored_loaded}

-- a part between others, laid anew
laid_between : (x y z new : List ℕ) (p : ℕ) → length x ≡ p → length y ≡ length new → laid (x ++ (y ++ z)) p new ≡ x ++ (new ++ z)
unfolding laid
laid_between x y z new p e l =
    let rest : drop (p + length new) (x ++ (y ++ z)) ≡ z = sym (drop-drop (length new) p (x ++ (y ++ z))) ∙ ap (λ (r : List ℕ). drop (length new) r) (drop_at x (y ++ z) p e) ∙ drop_at y z (length new) l in
    rw (take_at x (y ++ z) p e, rest)

-- trees of the right lengths
pub record Tidy (t : Tree) : Type 0 where
  pub states : length t.state ≡ 128
  pub parents : length t.parent ≡ 128
  pub tags : length t.tag ≡ 128

module _ (z : Records) (s : Storable z) where
  head : List ℕ
  head = pairs (z.size.rows ∷ z.size.width ∷ z.size.places ∷ [])

  head_size : length head ≡ 6
  unfolding head pairs twos
  head_size = refl

  old_size : length (tree_bytes z.tree) ≡ 512
  old_size = tree_size z.tree s.states s.parents s.tags

  tree_new : (t : Tree) → Tidy t → laid (stored z) states_at (tree_bytes t) ≡ stored (records_of z.size t z.node z.row)
  unfolding stored head
  tree_new t d = laid_between head (tree_bytes z.tree) _ (tree_bytes t) states_at head_size (old_size ∙ sym (tree_size t d.states d.parents d.tags))

  front : List ℕ
  front = head ++ tree_bytes z.tree

  front_size : length front ≡ table_at
  unfolding front
  front_size = omega (arith, length-append head (tree_bytes z.tree), head_size, old_size)

  nodes_new : (node : List ℕ) → length node ≡ entries z.size → laid (stored z) table_at node ≡ stored (records_of z.size z.tree node z.row)
  unfolding stored head table_bytes front
  nodes_new node e =
      ap (λ (b : List ℕ). laid b table_at node) (sym (append_assoc head (tree_bytes z.tree) _))
      ∙ laid_between front z.node (pairs z.row) node table_at front_size (s.nodes ∙ sym e)
      ∙ append_assoc head (tree_bytes z.tree) _

  rows_new : (row : List ℕ) → length row ≡ entries z.size → laid (stored z) (table_at + entries z.size) (pairs row) ≡ stored (records_of z.size z.tree z.node row)
  unfolding stored head table_bytes front
  rows_new row e =
      ap (λ (b : List ℕ). laid b (table_at + entries z.size) (pairs row)) (whole z.row)
      ∙ laid_between (front ++ z.node) (pairs z.row) [] (pairs row) (table_at + entries z.size)
      (omega (arith, length-append front z.node, front_size, s.nodes)) (omega (arith, pairs_size z.row, pairs_size row, s.rows, e))
      ∙ sym (whole row)
    where
      whole : (r : List ℕ) → head ++ (tree_bytes z.tree ++ (z.node ++ pairs r)) ≡ (front ++ z.node) ++ (pairs r ++ [])
      whole r = sym (append_assoc head (tree_bytes z.tree) _) ∙ sym (append_assoc front z.node (pairs r)) ∙ ap (λ (y : List ℕ). (front ++ z.node) ++ y) (sym (append-nil (pairs r)))

-- bytes that fit, each below 256
module _ (b : List ℕ) (f : Fits b) where
  storable : Storable (loaded b)
  unfolding loaded
  storable = record {
    within = f.within;
    states = long 6 128 (omega (arith, f.long));
    parents = long 134 128 (omega (arith, f.long));
    tags = numbers_size _ 128 (long 262 256 (omega (arith, f.long)));
    nodes = long 518 (entries (size_at b)) (omega (arith, f.long));
    rows = numbers_size _ (entries (size_at b)) (long (518 + entries (size_at b)) (2 * entries (size_at b)) (omega (arith, f.long)));
  }
    where
      long : (from k : ℕ) → from + k ≤ length b → length (take k (drop from b)) ≡ k
      long from k l = length-take-le k (drop from b) (omega (arith, length-drop from b))

  module _ (low : (i : ℕ) → at b i < 256) where
    -- the tree is laid
    pub tree_laid_anew : (t : Tree) → Tidy t → {a : List ℕ} {to : ℕ} → Lays b states_at (tree_bytes t) a to → a ≡ stored (records_of (size_at b) t (nodes_at b) (rows_at b))
    unfolding loaded
    tree_laid_anew t d l = l.whole ∙ ap (λ (x : List ℕ). laid x states_at (tree_bytes t)) (sym (stored_loaded b f low)) ∙ tree_new (loaded b) storable t d

    -- and then the rows
    pub rows_laid_anew : (t : Tree) → Tidy t → (row : List ℕ) → length row ≡ entries (size_at b) → {a c : List ℕ} {to end : ℕ}
        → Lays b states_at (tree_bytes t) a to → Lays a (table_at + length row) (pairs row) c end → c ≡ stored (records_of (size_at b) t (nodes_at b) row)
    unfolding loaded
    rows_laid_anew t d row e l k =
        k.whole ∙ rw (tree_laid_anew t d l, e) (rows_new (records_of (size_at b) t (nodes_at b) (rows_at b))
        (record { within = f.within; states = d.states; parents = d.parents; tags = d.tags; nodes = storable.nodes; rows = storable.rows }) row e)

    -- the nodes are laid: the bytes fit as before, and these are their nodes
    pub record Renoded (node a : List ℕ) : Type 0 where
      pub fits : Fits a
      pub size : size_at a ≡ size_at b
      pub nodes : nodes_at a ≡ node
      pub same : node ≡ nodes_at b → a ≡ b

    pub nodes_laid_anew : (node : List ℕ) → length node ≡ entries (size_at b) → {a : List ℕ} {to : ℕ} → Lays b table_at node a to → Renoded node a
    unfolding loaded
    nodes_laid_anew node e {a} l = record {
      fits = rw new (stored_fits z s);
      size = rw new (stored_measures z);
      nodes = ap (λ (y : Records). y.node) (ap loaded new ∙ loaded_stored z s);
      same = λ x. new ∙ rw x (stored_loaded b f low);
    }
      where
        z : Records
        z = records_of (size_at b) (loaded b).tree node (rows_at b)

        s : Storable z
        s = let h = storable in record { within = h.within; states = h.states; parents = h.parents; tags = h.tags; nodes = e; rows = h.rows }

        new : a ≡ stored z
        new = l.whole ∙ ap (λ (x : List ℕ). laid x table_at node) (sym (stored_loaded b f low)) ∙ nodes_new (loaded b) storable node e

-- the nodes were lent, k of them, and came back
pub nodes_lent : (b node : List ℕ) {k : ℕ} → k ≡ length node → table_at + length node ≤ length b → Lays b table_at node (take table_at b ++ (node ++ drop ((table_at + k) - table_at) (drop table_at b))) (table_at + length node)
nodes_lent b node e l = rw e (lays_part b table_at node node l refl)

-- and k nodes that were changed where they lie
pub nodes_changed : {b : List ℕ} (f : Fits b) (low : (i : ℕ) → at b i < 256) {k : ℕ} → k ≡ entries (size_at b) → (node : List ℕ) → length node ≡ k
    → Renoded b f low node (take table_at b ++ (node ++ drop ((table_at + k) - table_at) (drop table_at b)))
nodes_changed {b} f low e node l = nodes_laid_anew b f low node (l ∙ e) (nodes_lent b node (sym l) (omega (arith, l, e, f.long)))

-- the records' own measures and nodes are the bytes'
pub loaded_size : (b : List ℕ) → (loaded b).size ≡ size_at b
unfolding loaded
loaded_size b = refl

pub loaded_nodes : (b : List ℕ) → (loaded b).node ≡ nodes_at b
unfolding loaded
loaded_nodes b = refl
