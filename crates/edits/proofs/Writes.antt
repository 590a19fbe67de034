-- What each of the three changes of a write does to sound records. Assumes nothing.
use Rattle.std.specs.Prelude.{◌≡◌, refl, ◌≢◌, true, ℕ, ◌+◌, ◌<◌}
use Rattle.std.proofs.Common.{sym, ◌∙◌, ap, arith}
use Rattle.std.proofs.Math.Option.{some}
use Rattle.basics.specs.Decide.{at}
use Rattle.records.specs.Records.{lives, tag_place, Records}
use Rattle.trees.specs.Trees.{Child, version}
use Rattle.records.specs.Sound.{Sound}
use Rattle.tree.specs.Nodes.{version_alive}
use Rattle.edits.specs.Edits.{split, with_tree, with_entry, Whole, EmptyNode, FreeEntry, Parted, Moved, Saved}
use Rattle.edits.proofs.Solve.{lives_node, tag_place_lem}
use Rattle.edits.proofs.EnterPlace.{enter_living, tag_moved, tag_kept}
use Rattle.edits.proofs.EnterOwn.{Owning, OnlyAt, own_enters, own_moves, own_sound}
use Rattle.edits.proofs.EnterSave.{Saving, Sharing, save_enters, save_moves, save_sound}
use Rattle.edits.proofs.Split.{Splits, leaf_m}
use Rattle.edits.proofs.SplitPlace.{split_sound, version_m, split_living, split_tag}

-- a version with a node below it goes on at a new leaf
pub part_node : (z : Records) → Whole z.tree → Sound z → (g v c m : ℕ) → version z.tree g ≡ some v → v ≢ 0 → Child z.tree v c → EmptyNode z.tree m → Parted z (with_tree z (split z.tree v m)) g m
part_node z w s g v c m hv off child empty =
    let h : Splits z.tree v c m = record {
      whole = w;
      rules = record { states = s.states; linked = s.linked; tagged = s.tagged; branching = s.branching };
      snapshot = (off, (version_alive z.tree g v hv).0);
      child = child;
      empty = empty;
    } in
    record {
      sound = split_sound z s v c m h;
      living = split_living z s v c m h;
      same = split_tag z s v c m h;
      stands = version_m z s v c m h g hv;
      leaf = leaf_m z.tree v c m h;
    }

-- a leaf's row, which another version reads from the same place, gets a place of its own
pub own_row : (z : Records) → Sound z → (g v r i u : ℕ) → version z.tree g ≡ some v → v ≢ 0 → ((c : ℕ) → Child z.tree v c → ⊥) → r < z.size.rows → lives z u ≡ true → u ≢ g → tag_place z u r ≡ tag_place z g r → FreeEntry z i → Moved z (with_entry z i v r) g r (z.size.rows + i)
own_row z s g v r i u hv off leaf low live d same free =
    let (a, tv) = version_alive z.tree g v hv in
    let (x, hx, b, tx) = lives_node z u live in
    let h : Owning z v r i x = record {
      sound = s;
      off = off;
      alive = a;
      leaf = leaf;
      low = low;
      other = b;
      apart = λ e. d (sym tx ∙ ap (at z.tree.tag) e ∙ tv);
      same = sym (tag_place_lem z u x r hx) ∙ same ∙ tag_place_lem z g v r hv;
      free = free;
    } in
    let e = own_enters z v r i x h in
    let m = own_moves z v r i x h in
    record {
      sound = own_sound z v r i x h;
      living = enter_living z v r i;
      here = tag_moved z v r i e (OnlyAt v r) m g v r hv (refl, refl);
      elsewhere = λ w k l f.
          let (n, hn, c, tn) = lives_node z w l in
          tag_kept z v r i e (OnlyAt v r) m w n k hn (λ y. f (sym tn ∙ ap (at z.tree.tag) y.0 ∙ tv) y.1);
    }

-- a row that some snapshot reads from the origin's place gets a place at the child of node 0
pub save_row : (z : Records) → Sound z → (c r i u : ℕ) → Child z.tree 0 c → r < z.size.rows → lives z u ≡ true → u ≢ 0 → tag_place z u r ≡ r → FreeEntry z i → Saved z (with_entry z i c r) r (z.size.rows + i)
save_row z s c r i u child low live d shared free =
    let (x, hx, b, tx) = lives_node z u live in
    let h : Saving z c r i x = record {
      sound = s;
      child = child;
      low = low;
      other = (λ e. d (sym tx ∙ ap (at z.tree.tag) e ∙ s.states.root.1), b);
      shared = sym (tag_place_lem z u x r hx) ∙ shared;
      free = free;
    } in
    let e = save_enters z c r i x h in
    let m = save_moves z c r i x h in
    record {
      sound = save_sound z c r i x h;
      living = enter_living z c r i;
      there = λ w l f p.
          let (n, hn, a, tn) = lives_node z w l in
          tag_moved z c r i e (Sharing z r) m w n r hn
          (λ e. f (sym tn ∙ ap (at z.tree.tag) e ∙ s.states.root.1), (refl, sym (tag_place_lem z w n r hn) ∙ p));
      elsewhere = λ w k l f.
          let (n, hn, a, tn) = lives_node z w l in
          tag_kept z c r i e (Sharing z r) m w n k hn
          (λ y. f (λ e. omega (arith, s.tagged.above n (y.0, a), tn)) y.1.0 (tag_place_lem z w n k hn ∙ y.1.1));
    }
