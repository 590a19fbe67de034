-- Records whose tree has lost a ghost, and in which the old readings solve the new equations: the nodes left read as before, and the records are nearly sound. Assumes nothing.
use Rattle.std.specs.Prelude.{◌≡◌, ◌≢◌, List, ℕ, ◌+◌, ◌<◌, length}
use Rattle.std.proofs.Common.{sym, ◌∙◌}
use Rattle.basics.specs.Decide.{at}
use Rattle.trees.specs.declared.Tree.{Tree}
use Rattle.records.specs.Records.{Records, records_of, table}
use Rattle.trees.specs.Trees.{table_of, InUse, Ghost, Child}
use Rattle.trees.specs.Reading.{place}
use Rattle.records.specs.Sound.{Measured}
use Rattle.trees.specs.Rules.{Linked, Excepting, AllRead}
use Rattle.reading.specs.Reads.{reads_place}
use Rattle.edits.proofs.Solve.{Solves, place_only}
use Rattle.edits.proofs.WriteReaders.{alive_used}
use Rattle.removal.specs.Removal.{Nearly}
use Rattle.removal.proofs.PruneTree.{Drops, Forked, used_kept, alive_other, alive_kept, drop_states, drop_linked, drop_tagged, drop_root}

module _ (z : Records) (x : ℕ) (s : Nearly z x) (t' : Tree) (d : Drops z.tree t' x) (node' : List ℕ) (v : Solves t' (table_of z.size.rows node' z.row) (place z.tree (table z))) where
  -- t' and node' are the new tree and the new nodes of the entries
  linked' : Linked t'
  linked' = drop_linked d s.states s.linked

  pub drop_place : (n r : ℕ) → InUse z.tree n → n ≢ x → place t' (table_of z.size.rows node' z.row) n r ≡ place z.tree (table z) n r
  drop_place n r u h = place_only t' linked' (table_of z.size.rows node' z.row) (place z.tree (table z)) v n r (used_kept d n h u)

  module _ (k : Excepting t' (table_of z.size.rows node' z.row)) (old : (i : ℕ) → i < length node' → at node' i ≢ 0 → (i < length z.node) × (at z.node i ≢ 0)) where
    -- every exception has the reader that it had
    drop_read : AllRead t' (table_of z.size.rows node' z.row)
    drop_read i l f =
        let (h, o) = old i l f in
        let (n, a, q) = s.all_read i h o in
        let r = at z.row i in
        let p = z.size.rows + i in
        let u = alive_used z.tree n a in
        let b = alive_kept d n a in (
          n,
          b,
          (reads_place t' linked' (table_of z.size.rows node' z.row) k n r p (alive_used t' n b)).1
              ((reads_place z.tree s.linked (table z) s.excepting n r p u).0 q ∙ sym (drop_place n r u (alive_other d n a))),
        )

    -- x had at most one child, and every ghost but y has two
    pub drop_nearly : (y : ℕ) → Measured (records_of z.size t' node' z.row) → ((c e : ℕ) → Child z.tree x c → Child z.tree x e → c ≡ e)
        → ((n : ℕ) → n ≢ y → Ghost t' n → Forked t' n) → Nearly (records_of z.size t' node' z.row) y
    drop_nearly y m few forked = record {
      measured = m;
      states = drop_states d s.states;
      linked = linked';
      tagged = drop_tagged d s.tagged;
      root = drop_root d s.states few s.root;
      ghost = forked;
      excepting = k;
      all_read = drop_read;
    }
