-- How many share a row, node by node in the records, is what the place map says by tag. Assumes nothing.
use Rattle.std.specs.Prelude.{◌≡◌, ◌≢◌, Bool, cond, ◌&&◌, List, ◌∷◌}
use Rattle.std.proofs.Math.Path.{refl, sym, ap}
use Rattle.std.proofs.Common.{◌∙◌, arith}
use Rattle.std.proofs.Math.Logic.{by_cases}
use Rattle.std.proofs.Math.Bool.{true, false}
use Rattle.std.proofs.Math.Option.{some}
use Prim.Native.Nat.{ℕ, suc, ◌<◌}
use Rattle.std.proofs.Math.Decide.{ℕ_discrete}
use Rattle.std.proofs.Math.Dec.{eqb}
use borrow.Author.Tests.{eq-eqb, ne_eqb, eqb-true}
use Rattle.basics.specs.Decide.{at}
use Rattle.basics.specs.Count.{count}
use Rattle.basics.proofs.CountLaws.{count_cong}
use Rattle.records.specs.Records.{Records, table, lives, tag_place}
use Rattle.records.specs.Sound.{Sound}
use Rattle.trees.specs.Trees.{Alive, is_snapshot, version}
use Rattle.trees.specs.Reading.{place}
use Rattle.edits.proofs.Solve.{version_node, lives_node, tag_place_lem}
use Rattle.sharing.specs.Sharing.{reads_from, sharers_at}
use Rattle.reads.specs.Reads.{sharers_of_tag}
use Rattle.copies.specs.Copies.{only, different, sharers}
use Rattle.copies.specs.Members.{In, only_in}
use Rattle.copies.specs.Different.{count_new}
use Rattle.view.specs.View.{tags_below, view}
use Rattle.view.proofs.Tags.{different_new, tags_passing, tags_above}

module _ (z : Records) (s : Sound z) (tag v r : ℕ) (h : version z.tree tag ≡ some v) where
  -- a version reads row r from where that with the tag reads it; a living node does
  same : ℕ → Bool
  same u = eqb (tag_place z u r) (tag_place z tag r)

  reader : ℕ → Bool
  reader = reads_from z.tree (table z) r (place z.tree (table z) v r)

  node_same : (n u : ℕ) → Alive z.tree n → at z.tree.tag n ≡ u → same u ≡ reader n
  unfolding same reader reads_from
  node_same n u a e = rw (tag_place_lem z u n r (version_node z.tree s.states s.tagged n u a e), tag_place_lem z tag v r h, eq-eqb (at z.tree.state n) 1 a.1)

  origin_same : same 0 ≡ reader 0
  origin_same = node_same 0 0 (omega arith, s.states.root.0) s.states.root.1

  -- a snapshot whose tag does
  passing : ℕ → Bool
  passing k = is_snapshot z.tree k && same (at z.tree.tag k)

  node_passing : (n : ℕ) → n < 128 → n ≢ 0 → reader n ≡ passing n
  unfolding passing is_snapshot reader reads_from
  node_passing n l d = rw (ne_eqb n 0 d) (go (eqb (at z.tree.state n) 1) refl)
    where
      go : (b : Bool) → eqb (at z.tree.state n) 1 ≡ b → reader n ≡ (b && same (at z.tree.tag n))
      go true e = sym (node_same n (at z.tree.tag n) (l, eqb-true _ 1 e) refl)
      go false e = rw e

  tags : List ℕ
  tags = tags_below z.tree 128

  tags_passed : different (λ u. u) (only same tags) ≡ count passing 128
  unfolding tags passing
  tags_passed = tags_passing z.tree s.tagged same 128 (omega arith)

  others : (u : ℕ) → In u (only same tags) → 0 ≢ u
  unfolding tags
  others u i = tags_above z.tree s.tagged u ((only_in same tags u).0 i).0

  -- the origin is one of them or not
  counted : (b : Bool) → same 0 ≡ b → different (λ u. u) (cond b (0 ∷ only same tags) (only same tags)) ≡ count reader 128
  unfolding passing is_snapshot
  counted true e = different_new (λ u. u) 0 (only same tags) others ∙ ap suc tags_passed ∙ sym (count_new reader passing 0 128 (omega arith) (sym origin_same ∙ e) refl node_passing)
  counted false e = tags_passed ∙ sym (count_cong reader passing 128 (λ k l. by_cases (ℕ_discrete k 0) (λ d. rw d (sym origin_same ∙ e)) (node_passing k l)))

  node_sharers : (places : List ℕ) → sharers (view z places).tags (view z places).place tag r ≡ sharers_at z.tree (table z) v r
  unfolding view sharers sharers_at only tags same reader
  node_sharers places = counted (same 0) refl

pub view_sharers : (z : Records) → Sound z → (places : List ℕ) (tag r : ℕ) → lives z tag ≡ true → sharers (view z places).tags (view z places).place tag r ≡ sharers_of_tag z tag r
unfolding sharers_of_tag
view_sharers z s places tag r h = let (n, v, a, g) = lives_node z tag h in rw v (node_sharers z s tag n r v places)
