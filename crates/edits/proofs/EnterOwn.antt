-- An exception for a leaf, at a row that another living node reads from the same place: only that row of the leaf moves. Assumes nothing.
use Rattle.std.specs.Prelude.{◌≡◌, refl, ◌≢◌, ℕ, ◌+◌, ◌<◌}
use Rattle.std.proofs.Common.{sym, ◌∙◌, ap, arith}
use mathlib.Core.Logic.Dec
use Rattle.std.proofs.Math.Logic.{by_cases}
use Rattle.std.proofs.Math.Option.{Option, none, some}
use Rattle.std.proofs.Math.Decide.{ℕ_discrete}
use Rattle.basics.specs.Decide.{at}
use Rattle.records.specs.Records.{Records, table}
use Rattle.trees.specs.Trees.{InUse, Alive, up, Child}
use Rattle.trees.specs.Reading.{entry, place}
use Rattle.records.specs.Sound.{Sound}
use Rattle.tree.specs.Going.{reaches_ind}
use Rattle.tree.specs.Loops.{linked_reaches}
use Rattle.reading.specs.Reads.{entry_some, entry_none, place_root, place_own, place_up}
use Rattle.edits.specs.Edits.{with_entry, FreeEntry}
use Rattle.edits.proofs.WriteReaders.{alive_used, has_reader}
use Rattle.edits.proofs.Enter.{Enters}
use Rattle.edits.proofs.EnterPlace.{Moves, enter_sound}

-- v is a leaf, another living node x reads row r from the same place, and entry i is free
pub record Owning (z : Records) (v r i x : ℕ) : Type 0 where
  pub sound : Sound z
  pub off : v ≢ 0
  pub alive : Alive z.tree v
  pub leaf : (c : ℕ) → Child z.tree v c → ⊥
  pub low : r < z.size.rows
  pub other : Alive z.tree x
  pub apart : x ≢ v
  pub same : place z.tree (table z) x r ≡ place z.tree (table z) v r
  pub free : FreeEntry z i

-- just row r of v
abbrev pub OnlyAt : ℕ → ℕ → ℕ → ℕ → Type 0
OnlyAt v r n k = (n ≡ v) × (k ≡ r)

module _ (z : Records) (v r i x : ℕ) (h : Owning z v r i x) where
  -- no other node reads from the place of the leaf's own row
  leaf_alone : (j : ℕ) → entry (table z) v r ≡ some j → (n : ℕ) → InUse z.tree n → n ≢ v → place z.tree (table z) n r ≡ z.size.rows + j → ⊥
  leaf_alone j e n u = reaches_ind (up z.tree) Q (λ w d p. omega (arith, h.low, place_root z.tree h.sound.linked (table z) r))
      (λ k f q w d p. go k f w d p q (entry (table z) k r) refl) n (linked_reaches z.tree h.sound.linked n u) u
    where
      Q : ℕ → Type 0
      Q k = InUse z.tree k → k ≢ v → place z.tree (table z) k r ≡ z.size.rows + j → ⊥

      go : (k : ℕ) → k ≢ 0 → InUse z.tree k → k ≢ v → place z.tree (table z) k r ≡ z.size.rows + j → Q (up z.tree k) → (o : Option ℕ) → entry (table z) k r ≡ o → ⊥
      go k f w d p q (some l) y =
          let m : l ≡ j = omega (arith, place_own z.tree h.sound.linked (table z) k r l f y) in
          d (sym (entry_some (table z) k r l y).1 ∙ ap (at z.node) m ∙ (entry_some (table z) v r j e).1)
      go k f w d p q none y = q (h.sound.linked.parent k f w) (λ c. h.leaf k (f, w, c)) (sym (place_up z.tree h.sound.linked (table z) k r f w y) ∙ p)

  -- so the leaf has no own row r
  own_bare : entry (table z) v r ≡ none
  own_bare = go (entry (table z) v r) refl
    where
      go : (o : Option ℕ) → entry (table z) v r ≡ o → entry (table z) v r ≡ none
      go none e = e
      go (some j) e = absurd (leaf_alone j e x (alive_used z.tree x h.other) h.apart (h.same ∙ place_own z.tree h.sound.linked (table z) v r j h.off e))

  pub own_enters : Enters z v r i
  own_enters = record { sound = h.sound; off = h.off; used = alive_used z.tree v h.alive; low = h.low; free = h.free; bare = own_bare }

  pub own_moves : Moves z v r (OnlyAt v r)
  own_moves = record {
    decide = λ n k. Dec.and (ℕ_discrete n v) (ℕ_discrete k r);
    root = λ k c. h.off (sym c.0);
    here = (refl, refl);
    own = λ n k j f e c. entry_none (table z) v r own_bare j (rw (c.0, c.1) at (entry_some (table z) n k j e));
    through = λ n k f u d e. (λ c. absurd (d c.0 c.1), λ c. absurd (h.leaf n (f, u, c.0)));
  }

  -- an exception that v leaves is still read by x
  pub own_sound : Sound (with_entry z i v r)
  own_sound = enter_sound z v r i own_enters (OnlyAt v r) own_moves v h.alive (refl, refl)
      (λ j l f. let (n, (a, p)) = has_reader z h.sound j l f in by_cases (own_moves.decide n (at z.row j))
      (λ c. (x, (h.other, rw c.1 (h.same ∙ (rw (c.0, c.1) at p))), λ b. h.apart b.0))
      (λ c. (n, (a, p), c)))
