-- What is read after an exception is entered: from the new place at the nodes and rows that move to it, else as before. Assumes nothing.
use Rattle.std.specs.Prelude.{◌≡◌, refl, ◌≢◌, ◌↔◌, ℕ, ◌+◌, ◌<◌, length}
use Rattle.std.proofs.Common.{sym, ◌∙◌, arith, length-set}
use Rattle.std.proofs.Math.Logic.{ite, if_pos, if_neg, by_cases}
use Rattle.std.proofs.Math.Option.{Option, none, some}
use Rattle.std.proofs.Math.Decide.{ℕ_discrete}
use Rattle.basics.specs.Decide.{at}
use Rattle.records.specs.Records.{Records, table, lives, tag_place}
use Rattle.trees.specs.Trees.{InUse, Alive, up, version}
use Rattle.trees.specs.Reading.{Reads, entry, place_or, place}
use Rattle.trees.specs.Rules.{AllRead}
use Rattle.records.specs.Sound.{Sound}
use Rattle.reading.specs.Reads.{reads_place, place_root, place_own, place_up}
use Rattle.edits.specs.Edits.{with_entry}
use Rattle.edits.proofs.Solve.{Solves, place_only, tag_place_lem}
use Rattle.edits.proofs.WriteReaders.{alive_used, version_used, Reader}
use Rattle.edits.proofs.Enter.{Enters, entered, row_new, node_old, row_old, as_long, entry_new, entry_old, enter_excepting}

-- C says which nodes and rows move to the new place: v and r do; node 0 and a node with its own row do not; any other node just as its parent does
pub record Moves (z : Records) (v r : ℕ) (C : ℕ → ℕ → Type 0) : Type 0 where
  pub decide : (n k : ℕ) → Dec (C n k)
  pub root : (k : ℕ) → C 0 k → ⊥
  pub here : C v r
  pub own : (n k j : ℕ) → n ≢ 0 → entry (table z) n k ≡ some j → C n k → ⊥
  pub through : (n k : ℕ) → n ≢ 0 → InUse z.tree n → (n ≡ v → k ≡ r → ⊥) → entry (table z) n k ≡ none → C n k ↔ C (up z.tree n) k

-- the tree is the same, and so are the living
pub enter_living : (z : Records) (v r i u : ℕ) → lives (with_entry z i v r) u ≡ lives z u
unfolding lives
enter_living z v r i u = refl

module _ (z : Records) (v r i : ℕ) (h : Enters z v r i) (C : ℕ → ℕ → Type 0) (m : Moves z v r C) where
  -- the new readings
  moved : ℕ → ℕ → ℕ
  moved n k = ite (m.decide n k) (z.size.rows + i) (place z.tree (table z) n k)

  moved_yes : (n k : ℕ) → C n k → moved n k ≡ z.size.rows + i
  unfolding moved
  moved_yes n k c = if_pos (m.decide n k) c _ _

  moved_no : (n k : ℕ) → (C n k → ⊥) → moved n k ≡ place z.tree (table z) n k
  unfolding moved
  moved_no n k c = if_neg (m.decide n k) c _ _

  moved_solves : Solves z.tree (entered z v r i) moved
  moved_solves = record {
    root = λ k. moved_no 0 k (m.root k) ∙ place_root z.tree h.sound.linked (table z) k;
    step = λ n k f u. by_cases (ℕ_discrete n v)
        (λ x. by_cases (ℕ_discrete k r)
        (λ y. rw (x, y) (moved_yes v r m.here ∙ rw (entry_new z v r i h)))
        (λ y. old n k f u (λ a b. y b) (entry (table z) n k) refl))
        (λ x. old n k f u (λ a b. x a) (entry (table z) n k) refl);
  }
    where
      old : (n k : ℕ) → n ≢ 0 → InUse z.tree n → (n ≡ v → k ≡ r → ⊥) → (o : Option ℕ) → entry (table z) n k ≡ o
          → moved n k ≡ place_or z.size.rows (entry (entered z v r i) n k) (moved (up z.tree n) k)
      old n k f u d (some j) x = moved_no n k (m.own n k j f x) ∙ place_own z.tree h.sound.linked (table z) n k j f x ∙ rw (entry_old z v r i h n k f d ∙ x)
      old n k f u d none x =
          let (to, back) = m.through n k f u d x in
          by_cases (m.decide n k) (λ c. moved_yes n k c ∙ sym (moved_yes (up z.tree n) k (to c)))
          (λ c. moved_no n k c ∙ place_up z.tree h.sound.linked (table z) n k f u x ∙ sym (moved_no (up z.tree n) k (λ a. c (back a))))
          ∙ rw (entry_old z v r i h n k f d ∙ x)

  -- so they are what the nodes read
  pub place_moved : (n k : ℕ) → InUse z.tree n → C n k → place z.tree (entered z v r i) n k ≡ z.size.rows + i
  place_moved n k u c = place_only z.tree h.sound.linked (entered z v r i) moved moved_solves n k u ∙ moved_yes n k c

  pub place_kept : (n k : ℕ) → InUse z.tree n → (C n k → ⊥) → place z.tree (entered z v r i) n k ≡ place z.tree (table z) n k
  place_kept n k u c = place_only z.tree h.sound.linked (entered z v r i) moved moved_solves n k u ∙ moved_no n k c

  -- and so by tag
  pub tag_moved : (u n k : ℕ) → version z.tree u ≡ some n → C n k → tag_place (with_entry z i v r) u k ≡ z.size.rows + i
  tag_moved u n k e c = tag_place_lem (with_entry z i v r) u n k e ∙ place_moved n k (version_used z.tree u n e) c

  pub tag_kept : (u n k : ℕ) → version z.tree u ≡ some n → (C n k → ⊥) → tag_place (with_entry z i v r) u k ≡ tag_place z u k
  tag_kept u n k e c = tag_place_lem (with_entry z i v r) u n k e ∙ place_kept n k (version_used z.tree u n e) c ∙ sym (tag_place_lem z u n k e)

  -- the records stay sound if a living version moves to the new place, and every exception has a reader that does not move
  module _ (w : ℕ) (a : Alive z.tree w) (c : C w r) (rest : (j : ℕ) → j < length z.node → at z.node j ≢ 0 → (n : ℕ) × Reader z j n × (C n (at z.row j) → ⊥)) where
    enter_read : AllRead z.tree (entered z v r i)
    enter_read j l f = by_cases (ℕ_discrete j i)
        (λ x. (w, a, rw (x, row_new z v r i h) (reads w r i (alive_used z.tree w a) (place_moved w r (alive_used z.tree w a) c))))
        (λ x.
        let (n, (b, p), d) = rest j (omega (arith, as_long z v r i h)) (λ y. f (node_old z v r i h j x ∙ y)) in
        let u = alive_used z.tree n b in
        (n, b, rw (row_old z v r i h j x) (reads n (at z.row j) j u (place_kept n (at z.row j) u d ∙ p))))
      where
        reads : (n k j : ℕ) → InUse z.tree n → place z.tree (entered z v r i) n k ≡ z.size.rows + j → Reads z.tree (entered z v r i) k (z.size.rows + j) n
        reads n k j u e = (reads_place z.tree h.sound.linked (entered z v r i) (enter_excepting z v r i h) n k (z.size.rows + j) u).1 (sym e)

    pub enter_sound : Sound (with_entry z i v r)
    enter_sound = record {
      measured = record { within = h.sound.measured.within; nodes = as_long z v r i h ∙ h.sound.measured.nodes; rows = length-set z.row i r ∙ h.sound.measured.rows };
      states = h.sound.states;
      linked = h.sound.linked;
      tagged = h.sound.tagged;
      branching = h.sound.branching;
      excepting = enter_excepting z v r i h;
      all_read = enter_read;
    }
