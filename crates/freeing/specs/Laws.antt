-- An entry is lonely if and only if one version alone meets its node; and entries freed one by one, up to the last. Assumes nothing.
use Rattle.std.specs.Prelude.{◌≡◌, refl, ◌≢◌, ◌↔◌, Bool, true, false, List, ℕ, ◌+◌, ◌≤◌, ◌<◌, length, set}
use Rattle.std.proofs.Common.{sym, ◌∙◌, ap, arith, length-set, get_or-set_same, get_or-set_other}
use Rattle.std.proofs.Math.Logic.{by_cases}
use Rattle.std.proofs.lemmas.Bool.{false≢true}
use Rattle.std.proofs.Math.Decide.{ℕ_discrete, dec_lt}
use Rattle.std.proofs.Math.ListN.{get_or-eq_default}
use Rattle.basics.specs.Decide.{at, decides_false}
use Rattle.trees.specs.declared.Tree.{Tree}
use Rattle.trees.specs.Trees.{Table, InUse, Alive, Snapshot}
use Rattle.trees.specs.Reading.{place}
use Rattle.reading.specs.Reads.{place_reads, reads_place}
use Rattle.sharing.specs.Laws.{shared_decides}
use Rattle.table.specs.Rules.{Judging, Meets}
use Rattle.table.proofs.Laws.{meets_reads, reads_meets}
use Rattle.removal.specs.Removal.{lonely, Freed}
use Rattle.removal.proofs.FreeLonely.{tested, lonely_of, lonely_yes, lonely_taken}
use Rattle.asking.specs.Asking.{MeetsAlone, Asking}
use Rattle.affecting.specs.Affected.{Affected, told}

-- entries below i are free if they are lonely, and the others are as they were
pub record FreedTo (t : Tree) (e : Table) (v i : ℕ) (node row : List ℕ) : Type 0 where
  pub nodes : length node ≡ length e.node
  pub rows : length row ≡ length e.row
  pub gone : (j : ℕ) → j < i → lonely t e v j ≡ true → (at node j ≡ 0) × (at row j ≡ 0)
  pub stays : (j : ℕ) → (j < i → lonely t e v j ≡ false) → (at node j ≡ at e.node j) × (at row j ≡ at e.row j)

-- Entries freed one by one

module _ (t : Tree) (e : Table) (v : ℕ) where
  pub freed_start : FreedTo t e v 0 e.node e.row
  freed_start = record { nodes = refl; rows = refl; gone = λ j l. absurd (omega arith); stays = λ j h. (refl, refl) }

  module _ (i : ℕ) (node row : List ℕ) (d : FreedTo t e v i node row) where
    -- entry i is as it was
    pub freed_next : (at node i ≡ at e.node i) × (at row i ≡ at e.row i)
    freed_next = d.stays i (λ l. absurd (omega arith))

    -- entry i stays
    pub freed_skip : lonely t e v i ≡ false → FreedTo t e v (i + 1) node row
    freed_skip h = record {
      nodes = d.nodes;
      rows = d.rows;
      gone = λ j l x. by_cases (ℕ_discrete j i) (λ s. absurd (false≢true (sym h ∙ ap (lonely t e v) (sym s) ∙ x))) (λ s. d.gone j (omega arith) x);
      stays = λ j x. d.stays j (λ l. x (omega arith));
    }

    -- entry i goes
    pub freed_set : i < length node → length row ≡ length node → lonely t e v i ≡ true → FreedTo t e v (i + 1) (set node i 0) (set row i 0)
    freed_set l k h = record {
      nodes = length-set node i 0 ∙ d.nodes;
      rows = length-set row i 0 ∙ d.rows;
      gone = λ j m x. by_cases (ℕ_discrete j i)
          (λ s. rw s (get_or-set_same node i 0 0 l, get_or-set_same row i 0 0 (omega (arith, k))))
          (λ s. rw (get_or-set_other node i j 0 0 s, get_or-set_other row i j 0 0 s) (d.gone j (omega arith) x));
      stays = λ j x. by_cases (ℕ_discrete j i)
          (λ s. absurd (false≢true (sym (x (omega arith)) ∙ ap (lonely t e v) s ∙ h)))
          (λ s. rw (get_or-set_other node i j 0 0 s, get_or-set_other row i j 0 0 s) (d.stays j (λ m. x (omega arith))));
    }

  -- past the last entry exactly the lonely ones are free
  pub freed_end : (i : ℕ) (node row : List ℕ) → length e.node ≤ i → FreedTo t e v i node row → Freed t e v node row
  freed_end i node row l d = record {
    nodes = d.nodes;
    rows = d.rows;
    gone = λ j h. d.gone j (omega (arith, inside e.node j (lonely_taken t e v j h))) h;
    stays = λ j h. d.stays j (λ m. h);
  }
    where
      -- an entry other than 0 lies inside its list
      inside : (xs : List ℕ) (j : ℕ) → at xs j ≢ 0 → j < length xs
      inside xs j h = by_cases (dec_lt j (length xs)) (λ l. l) (λ l. absurd (h (get_or-eq_default xs 0 {n = j} (omega arith))))

-- Marks say who reads an entry

living : (t : Tree) (n : ℕ) → Alive t n → InUse t n
living t n a = (a.0, λ x. omega (arith, a.1))

module _ (t : Tree) (e : Table) (marks : List ℕ) (h : Judging t e marks) (v : ℕ) (w : Snapshot t v) (i : ℕ) (l : i < length e.node) where
  used_node : InUse t v
  used_node = living t v w.1

  module _ (z : at e.node i ≢ 0) where
    low : at e.row i < e.rows
    low = (h.excepting.named i l z).1

    -- a node in use meets the entry's node if and only if it reads the entry's place
    meets_place : (n : ℕ) → InUse t n → Meets t marks (at e.row i) (at e.node i) n ↔ (place t e n (at e.row i) ≡ e.rows + i)
    meets_place n x = (
      λ m. sym ((reads_place t h.fitting.linked e h.excepting n (at e.row i) (e.rows + i) x).0 (meets_reads t e marks h z low (l, refl, refl) x m)),
      λ p. reads_meets t e marks h p low (l, refl, refl) x (place_reads t h.fitting.linked e n (at e.row i) x),
    )

  pub node_low : at e.node i < 128
  node_low = by_cases (ℕ_discrete (at e.node i) 0) (λ z. omega arith) (λ z. (h.excepting.named i l z).0.0)

  -- what the question asks
  pub asking : (g r : ℕ) → g ≡ at e.node i → r ≡ at e.row i → Asking t marks v g r
  asking g r a b = record {
    linked = h.fitting.linked;
    used = used_node;
    node = omega (arith, a, node_low);
    row = λ z. let m = low (λ x. z (a ∙ x)) in record { row = omega (arith, h.fitting.few, b, m); room = omega (arith, h.marked.room, b, m) };
  }

  -- an entry that the version at node v alone meets is lonely, and a lonely one it alone meets
  pub alone_lonely : MeetsAlone t marks v (at e.node i) (at e.row i) → lonely t e v i ≡ true
  alone_lonely m =
      let z = m.below in
      let p = (meets_place z v used_node).0 m.meets in
      lonely_yes t e v i z p (decides_false (shared_decides t e v (at e.row i)) (λ (n, a, x, q). m.alone (n, (a, x, (meets_place z n (living t n a)).1 (q ∙ p)))))

  pub lonely_alone : lonely t e v i ≡ true → MeetsAlone t marks v (at e.node i) (at e.row i)
  lonely_alone x =
      let z = lonely_taken t e v i x in
      let (p, s) = lonely_of t e v i x in
      record {
        below = z;
        meets = (meets_place z v used_node).1 p;
        alone = λ (n, (a, y, m)). s (n, a, y, (meets_place z n (living t n a)).0 m ∙ sym p);
      }

  -- an entry that the version at node v does not alone meet is not lonely
  pub alone_not : (MeetsAlone t marks v (at e.node i) (at e.row i) → ⊥) → lonely t e v i ≡ false
  alone_not f = tested (lonely t e v i) (λ x. absurd (f (lonely_alone x))) (λ x. x)

  -- nor is one of a node that is not affected
  pub unaffected_not : (xs : List Bool) → Affected t v xs → told xs (at e.node i) ≡ false → lonely t e v i ≡ false
  unaffected_not xs a z = alone_not (λ m. false≢true (sym z ∙ a.all marks (at e.node i) (at e.row i) node_low m))
