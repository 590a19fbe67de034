-- Whether a row is shared, node by node in the records, is what the place map says by tag. Assumes nothing.
use Rattle.std.specs.Prelude.{◌≡◌, true, List, ℕ}
use Rattle.std.proofs.Common.{sym, ◌∙◌, ap}
use Rattle.std.proofs.Math.Option.{some}
use Rattle.basics.specs.Decide.{decides_true, holds, at}
use Rattle.records.specs.Records.{Records, table}
use Rattle.trees.specs.Trees.{version}
use Rattle.records.specs.Sound.{Sound}
use Rattle.tree.specs.Nodes.{version_alive}
use Rattle.edits.proofs.Solve.{lives_node, tag_place_lem}
use Rattle.copies.specs.Copies.{shared}
use Rattle.copies.specs.Members.{test_iff}
use Rattle.copies.specs.Counting.{shared_yes, shared_some}
use Rattle.view.specs.View.{view}
use Rattle.view.proofs.Viewed.{view_alive}
use Rattle.sharing.specs.Sharing.{SharedAt, shared_at}
use Rattle.sharing.specs.Laws.{shared_decides}
use Rattle.wrote.specs.WroteRecords.{sharer}

-- the living nodes other than v are those of the tags other than its own
pub shared_view : (z : Records) (s : Sound z) (places : List ℕ) (tag v r : ℕ) → version z.tree tag ≡ some v → shared (view z places).tags (view z places).place tag r ≡ shared_at z.tree (table z) v r
unfolding view
shared_view z s places tag v r h = test_iff (λ e. decides_true (shared_decides z.tree (table z) v r) (node e), λ e. by_tag (holds _ (shared_decides z.tree (table z) v r) e))
  where
    node : shared (view z places).tags (view z places).place tag r ≡ true → SharedAt z.tree (table z) v r
    node e =
        let (u, a, d, p) = shared_some (view z places).tags (view z places).place tag r e in
        let (n, k, b, g) = lives_node z u (sym (view_alive z s places u) ∙ a) in
        (n, b, (λ x. d (sym g ∙ ap (at z.tree.tag) x ∙ (version_alive z.tree tag v h).1)), sym (tag_place_lem z u n r k) ∙ p ∙ tag_place_lem z tag v r h)

    by_tag : SharedAt z.tree (table z) v r → shared (view z places).tags (view z places).place tag r ≡ true
    by_tag k =
        let (u, l, d, p) = sharer z s tag v r h k in
        shared_yes (view z places).tags (view z places).place tag r u (view_alive z s places u ∙ l) d p
