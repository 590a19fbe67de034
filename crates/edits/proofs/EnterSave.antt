-- An exception for the child of node 0, at a row that some snapshot reads from the origin's place: the snapshots that do so move. Assumes nothing.
use Rattle.std.specs.Prelude.{◌≡◌, refl, ◌≢◌, ℕ, ◌≤◌, ◌<◌}
use Rattle.std.proofs.Common.{sym, ◌∙◌, ap, arith}
use mathlib.Core.Logic.Dec
use Rattle.std.proofs.Math.Logic.{by_cases}
use Rattle.std.proofs.Math.Option.{Option, none, some}
use Rattle.std.proofs.Math.Decide.{ℕ_discrete}
use Rattle.records.specs.Records.{Records, table}
use Rattle.trees.specs.Trees.{InUse, Snapshot, up, Child}
use Rattle.trees.specs.Reading.{entry, place}
use Rattle.records.specs.Sound.{Sound}
use Rattle.tree.specs.Going.{reaches_ind}
use Rattle.tree.specs.Loops.{linked_reaches}
use Rattle.reading.specs.Reads.{entry_some, entry_none, place_root, place_own, place_up}
use Rattle.edits.specs.Edits.{with_entry, FreeEntry}
use Rattle.edits.proofs.WriteReaders.{alive_used, has_reader}
use Rattle.edits.proofs.Enter.{Enters}
use Rattle.edits.proofs.EnterPlace.{Moves, enter_sound}

-- c is the child of node 0, the snapshot x reads row r from the origin's place, and entry i is free
pub record Saving (z : Records) (c r i x : ℕ) : Type 0 where
  pub sound : Sound z
  pub child : Child z.tree 0 c
  pub low : r < z.size.rows
  pub other : Snapshot z.tree x
  pub shared : place z.tree (table z) x r ≡ r
  pub free : FreeEntry z i

-- a node other than 0 that reads row r from the origin's place
abbrev pub Sharing : Records → ℕ → ℕ → ℕ → Type 0
Sharing z r n k = (n ≢ 0) × ((k ≡ r) × (place z.tree (table z) n k ≡ r))

module _ (z : Records) (c r i x : ℕ) (h : Saving z c r i x) where
  -- if the child of node 0 had its own row r, no node below it would read the origin's
  child_hides : (j : ℕ) → entry (table z) c r ≡ some j → (n : ℕ) → InUse z.tree n → n ≢ 0 → z.size.rows ≤ place z.tree (table z) n r
  child_hides j e n u = reaches_ind (up z.tree) Q (λ w d. absurd (d refl))
      (λ k f q w d. go k f w q (entry (table z) k r) refl) n (linked_reaches z.tree h.sound.linked n u) u
    where
      Q : ℕ → Type 0
      Q k = InUse z.tree k → k ≢ 0 → z.size.rows ≤ place z.tree (table z) k r

      go : (k : ℕ) → k ≢ 0 → InUse z.tree k → Q (up z.tree k) → (o : Option ℕ) → entry (table z) k r ≡ o → z.size.rows ≤ place z.tree (table z) k r
      go k f w q (some l) y = omega (arith, place_own z.tree h.sound.linked (table z) k r l f y)
      go k f w q none y = by_cases (ℕ_discrete (up z.tree k) 0)
          (λ p. absurd (entry_none (table z) k r y j (rw (h.sound.branching.root c k h.child (f, w, p)) at (entry_some (table z) c r j e))))
          (λ p. omega (arith, q (h.sound.linked.parent k f w) p, place_up z.tree h.sound.linked (table z) k r f w y))

  -- but x reads the origin's
  save_bare : entry (table z) c r ≡ none
  save_bare = go (entry (table z) c r) refl
    where
      go : (o : Option ℕ) → entry (table z) c r ≡ o → entry (table z) c r ≡ none
      go none e = e
      go (some j) e = absurd (omega (arith, h.low, h.shared, child_hides j e x (alive_used z.tree x h.other.1) h.other.0))

  pub save_enters : Enters z c r i
  save_enters = record { sound = h.sound; off = h.child.0; used = h.child.1; low = h.low; free = h.free; bare = save_bare }

  -- the child itself reads what node 0 reads
  child_shares : place z.tree (table z) c r ≡ r
  child_shares = place_up z.tree h.sound.linked (table z) c r h.child.0 h.child.1 save_bare
      ∙ ap (λ (k : ℕ). place z.tree (table z) k r) h.child.2 ∙ place_root z.tree h.sound.linked (table z) r

  pub save_moves : Moves z c r (Sharing z r)
  save_moves = record {
    decide = λ n k. Dec.and (Dec.not (ℕ_discrete n 0)) (Dec.and (ℕ_discrete k r) (ℕ_discrete (place z.tree (table z) n k) r));
    root = λ k s. s.0 refl;
    here = (h.child.0, (refl, child_shares));
    own = λ n k j f e s. omega (arith, h.low, s.1.1, place_own z.tree h.sound.linked (table z) n k j f e);
    through = λ n k f u d e.
        let p = place_up z.tree h.sound.linked (table z) n k f u e in
        (λ s. (λ y. d (h.sound.branching.root n c (f, u, y) h.child) s.1.0, (s.1.0, sym p ∙ s.1.1)), λ s. (f, (s.1.0, p ∙ s.1.1)));
  }

  -- what moves read no exception before
  pub save_sound : Sound (with_entry z i c r)
  save_sound = enter_sound z c r i save_enters (Sharing z r) save_moves x h.other.1 (h.other.0, (refl, h.shared))
      (λ j l f. let (n, (a, p)) = has_reader z h.sound j l f in (n, (a, p), λ s. omega (arith, h.low, s.1.1)))
