-- The version at node v is deleted: what it alone reads is freed, its node becomes a ghost, and what is superfluous goes; every other
-- version reads as before, and the records are sound. Assumes nothing.
use Rattle.std.specs.Prelude.{◌≡◌, refl, ◌≢◌, true, not, ◌&&◌, ℕ, ◌<◌, eqb}
use Rattle.std.proofs.Common.{sym, ◌∙◌, ap, arith, eq-eqb, ne_eqb}
use Rattle.std.proofs.Math.Logic.{by_cases}
use Rattle.std.proofs.Math.Option.{Option, none, some}
use Rattle.std.proofs.Math.Decide.{ℕ_discrete}
use Rattle.basics.specs.Decide.{at}
use Rattle.records.specs.Records.{Records, records_of, table, lives, tag_place}
use Rattle.trees.specs.Trees.{Ghost, Snapshot, version}
use Rattle.records.specs.Sound.{Sound}
use Rattle.tree.specs.Nodes.{version_alive}
use Rattle.edits.specs.Edits.{with_tree, Whole}
use Rattle.edits.proofs.Solve.{at_same, lives_node, version_lives, nobody_lives, tag_place_lem}
use Rattle.removal.specs.Removal.{Freed, Spare, ghosted, Deleted, freed_list}
use Rattle.removal.proofs.FreedLists.{freed_is}
use Rattle.removal.proofs.Freed.{freed_place, freed_sound, freed_spare}
use Rattle.removal.proofs.Ghosted.{ghosted_place, ghosted_whole, ghosted_nearly, ghosted_other, ghosted_gone, ghosted_none}
use Rattle.pruning.specs.Pruning.{pruned_tree, pruned_node}
use Rattle.deletes.specs.Deleting.{deleted_at}
use Rattle.removed.specs.RemovedRecords.{Thinned, pruned, Settled, settled}

-- the records without it
abbrev pub records_without : Records → ℕ → Records
records_without z v = records_of z.size (deleted_at z v).tree (deleted_at z v).node (deleted_at z v).row

module _ (z : Records) (s : Sound z) (w : Whole z.tree) (tag v : ℕ) (stands : version z.tree tag ≡ some v) (a : Snapshot z.tree v) where
  -- The entries that only v reads are freed

  abbrev freed : Records
  freed = records_of z.size z.tree (freed_list z.tree (table z) v z.node) (freed_list z.tree (table z) v z.row)

  frees : Freed z.tree (table z) v freed.node freed.row
  frees = freed_is z.tree (table z) v (s.measured.rows ∙ sym s.measured.nodes)

  sound : Sound freed
  sound = freed_sound z s v a freed.node freed.row frees

  spare : Spare freed v
  spare = freed_spare z s v a freed.node freed.row frees

  -- v becomes a ghost

  abbrev ghostly : Records
  ghostly = with_tree freed (ghosted z.tree v)

  ghost : Ghost (ghosted z.tree v) v
  ghost = (a.1.0, at_same z.tree.state v 2 (omega (arith, w.state, a.1.0)))

  -- a version with another tag stands at another node
  apart : (u n : ℕ) → version z.tree u ≡ some n → u ≢ tag → n ≢ v
  apart u n h d = λ e. d (sym (version_alive z.tree u n h).1 ∙ ap (at z.tree.tag) e ∙ (version_alive z.tree tag v stands).1)

  nobody : version (ghosted z.tree v) tag ≡ none
  nobody = rw (version_alive z.tree tag v stands).1 at (ghosted_gone freed w sound v a spare)

  ghost_living : (u : ℕ) → lives ghostly u ≡ (not (eqb u tag) && lives z u)
  ghost_living u = by_cases (ℕ_discrete u tag)
      (λ e. rw (eq-eqb u tag e) (nobody_lives ghostly u (rw e nobody)))
      (λ e. rw (ne_eqb u tag e) (go e (version z.tree u) refl))
    where
      go : u ≢ tag → (o : Option ℕ) → version z.tree u ≡ o → lives ghostly u ≡ lives z u
      go d none h = nobody_lives ghostly u (ghosted_none freed w sound v a spare u h) ∙ sym (nobody_lives z u h)
      go d (some n) h = version_lives ghostly u n (ghosted_other freed w sound v a spare u n h (apart u n h d)) ∙ sym (version_lives z u n h)

  ghost_same : (u r : ℕ) → lives z u ≡ true → u ≢ tag → r < z.size.rows → tag_place ghostly u r ≡ tag_place z u r
  ghost_same u r l d low =
      let (n, h, b, g) = lives_node z u l in
      let off = apart u n h d in
      tag_place_lem ghostly u n r (ghosted_other freed w sound v a spare u n h off)
      ∙ ghosted_place freed w sound v a spare n r
      ∙ freed_place z s v a freed.node freed.row frees n r b off low
      ∙ sym (tag_place_lem z u n r h)

  -- What is superfluous goes

  thinned : Thinned ghostly (with_tree ghostly (pruned_tree (ghosted z.tree v) v)) (pruned_node (ghosted z.tree v) v)
  thinned = pruned ghostly (ghosted_whole freed w sound v a spare) v (ghosted_nearly freed w sound v a spare) ghost

  rest : Settled (with_tree ghostly (pruned_tree (ghosted z.tree v) v)) (records_without z v)
  unfolding deleted_at
  rest = let t = thinned in settled (with_tree ghostly (pruned_tree (ghosted z.tree v) v)) t.whole (pruned_node (ghosted z.tree v) v) t.nearly t.low t.child

  pub removed : Deleted z (records_without z v) tag
  removed = record {
    sound = rest.sound;
    living = λ u. rest.follows.living u ∙ thinned.follows.living u ∙ ghost_living u;
    same = λ u r l d low.
        let k : lives ghostly u ≡ true = ghost_living u ∙ rw (ne_eqb u tag d, l) in
        rest.follows.same u r (thinned.follows.living u ∙ k) ∙ thinned.follows.same u r k ∙ ghost_same u r l d low;
  }

  pub removed_whole : Whole (deleted_at z v).tree
  removed_whole = rest.whole
