-- Freeing the entries that the version at node v alone reads: the records stay sound, every other version reads as before,
-- and what v then reads is read by the origin or another living version too. Assumes nothing.
use Rattle.std.specs.Prelude.{◌≡◌, refl, ◌≢◌, ◌⊎◌, true, false, List, ℕ, ◌+◌, ◌<◌, length}
use Rattle.std.proofs.Common.{sym, ◌∙◌, ap, inl, inr, arith}
use Rattle.std.proofs.Math.Logic.{by_cases}
use Rattle.std.proofs.Math.Decide.{ℕ_discrete}
use Rattle.basics.specs.Decide.{at}
use Rattle.trees.specs.Trees.{Table, table_of, Alive, Snapshot}
use Rattle.records.specs.Records.{Records, records_of, table}
use Rattle.trees.specs.Reading.{Owns, Reads, origin, own, above, place}
use Rattle.trees.specs.Rules.{Excepting, AllRead}
use Rattle.records.specs.Sound.{Sound}
use Rattle.reading.specs.Reads.{place_reads, reads_place}
use Rattle.edits.proofs.WriteReaders.{alive_used, has_reader}
use Rattle.sharing.specs.Sharing.{SharedAt}
use Rattle.removal.specs.Removal.{lonely, Freed, Spare}
use Rattle.removal.proofs.FreeLonely.{tested, lonely_of, shared_of, Serves, reads_serves, reads_row}

module _ (z : Records) (s : Sound z) (v : ℕ) (a : Snapshot z.tree v) (node row : List ℕ) (f : Freed z.tree (table z) v node row) where
  abbrev freed : Table
  freed = table_of z.size.rows node row

  -- Own rows afterwards are the old ones at entries that are not lonely

  -- what is taken afterwards was not lonely
  stays_taken : (i : ℕ) → at node i ≢ 0 → lonely z.tree (table z) v i ≡ false
  stays_taken i x = tested (lonely z.tree (table z) v i) (λ h. absurd (x (f.gone i h).0)) (λ h. h)

  owns_kept : (n r i : ℕ) → lonely z.tree (table z) v i ≡ false → Owns (table z) n r i → Owns freed n r i
  owns_kept n r i h o = (omega (arith, o.0, f.nodes), (f.stays i h).0 ∙ o.1, (f.stays i h).1 ∙ o.2)

  owns_back : (n r i : ℕ) → n ≢ 0 → Owns freed n r i → Owns (table z) n r i
  owns_back n r i x o =
      let h = stays_taken i (λ y. x (sym o.1 ∙ y)) in
      (omega (arith, o.0, f.nodes), sym (f.stays i h).0 ∙ o.1, sym (f.stays i h).1 ∙ o.2)

  -- who does not read a lonely entry's place reads as before
  reads_kept : {r p n : ℕ} → ((i : ℕ) → lonely z.tree (table z) v i ≡ true → p ≢ z.size.rows + i) → Reads z.tree (table z) r p n → Reads z.tree freed r p n
  reads_kept h (origin x y) = origin x y
  reads_kept {r} {n = n} h (own {i = i} x o y) =
      own x (owns_kept n r i (tested (lonely z.tree (table z) v i) (λ k. absurd (h i k y)) (λ k. k)) o) y
  reads_kept {r} {n = n} h (above x o d) = above x (λ i q. o i (owns_back n r i x q)) (reads_kept h d)

  -- Rule 6

  freed_excepting : Excepting z.tree freed
  freed_excepting = record {
    free = λ i l x. tested (lonely z.tree (table z) v i) (λ h. (f.gone i h).1)
        (λ h. (f.stays i h).1 ∙ s.excepting.free i (omega (arith, f.nodes)) (sym (f.stays i h).0 ∙ x));
    named = λ i l x.
        let (p, q) = f.stays i (stays_taken i x) in
        rw (p, q) (s.excepting.named i (omega (arith, f.nodes)) (λ y. x (p ∙ y)));
    once = λ i j n r x o q. s.excepting.once i j n r x (owns_back n r i x o) (owns_back n r j x q);
  }

  -- The other living versions read as before

  -- for they read no place of a lonely entry
  other_apart : (n r : ℕ) → Alive z.tree n → n ≢ v → r < z.size.rows → (i : ℕ) → lonely z.tree (table z) v i ≡ true → place z.tree (table z) n r ≢ z.size.rows + i
  other_apart n r b d l i h e =
      let (p, alone) = lonely_of z.tree (table z) v i h in
      let k : at z.row i ≡ r = reads_row z.tree (table z) i l (rw e at (place_reads z.tree s.linked (table z) n r (alive_used z.tree n b))) in
      alone (n, b, d, ap (place z.tree (table z) n) k ∙ e ∙ sym p)

  pub freed_place : (n r : ℕ) → Alive z.tree n → n ≢ v → r < z.size.rows → place z.tree (table_of z.size.rows node row) n r ≡ place z.tree (table z) n r
  freed_place n r b d l =
      let u = alive_used z.tree n b in
      sym ((reads_place z.tree s.linked freed freed_excepting n r (place z.tree (table z) n r) u).0
      (reads_kept (other_apart n r b d l) (place_reads z.tree s.linked (table z) n r u)))

  -- an entry that stays taken is read by a living version other than v
  other_reader : (j : ℕ) → j < length node → at node j ≢ 0 → (n : ℕ) × Alive z.tree n × (n ≢ v) × (place z.tree freed n (at row j) ≡ z.size.rows + j)
  other_reader j l x =
      let h = stays_taken j x in
      let (p, q) = f.stays j h in
      let k : j < length z.node = omega (arith, f.nodes) in
      let y : at z.node j ≢ 0 = λ w. x (p ∙ w) in
      let low : at z.row j < z.size.rows = (s.excepting.named j k y).1 in
      let (m, (b, e)) = has_reader z s j k y in
      rw q (by_cases (ℕ_discrete m v)
      (λ d.
      let g : place z.tree (table z) v (at z.row j) ≡ z.size.rows + j = rw d at e in
      let (n, c, o, w) = shared_of z.tree (table z) v j h y g in
      (n, c, o, freed_place n (at z.row j) c o low ∙ w ∙ g))
      (λ d. (m, b, d, freed_place m (at z.row j) b d low ∙ e)))

  freed_read : AllRead z.tree freed
  freed_read j l x =
      let (n, b, d, e) = other_reader j l x in
      (n, b, (reads_place z.tree s.linked freed freed_excepting n (at row j) (z.size.rows + j) (alive_used z.tree n b)).1 (sym e))

  pub freed_sound : Sound (records_of z.size z.tree node row)
  freed_sound = record {
    measured = record { within = s.measured.within; nodes = f.nodes ∙ s.measured.nodes; rows = f.rows ∙ s.measured.rows };
    states = s.states;
    linked = s.linked;
    tagged = s.tagged;
    branching = s.branching;
    excepting = freed_excepting;
    all_read = freed_read;
  }

  pub freed_spare : Spare (records_of z.size z.tree node row) v
  freed_spare r l = go (place z.tree freed v r) refl (reads_serves z.tree freed l (place_reads z.tree s.linked freed v r (alive_used z.tree v a.1)))
    where
      go : (p : ℕ) → place z.tree freed v r ≡ p → Serves freed r p → (place z.tree freed v r < z.size.rows) ⊎ SharedAt z.tree freed v r
      go p e (inl h) = inl (omega arith)
      go p e (inr (j, k, x, y, h)) =
          let (n, b, d, w) = other_reader j k x in
          inr (n, b, d, ap (place z.tree freed n) (sym y) ∙ w ∙ sym h ∙ sym e)
