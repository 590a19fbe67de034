-- The two lists that freeing leaves are those of Freed, and only they are. Assumes nothing.
use Rattle.std.specs.Prelude.{◌≡◌, cond, List, ℕ, ◌+◌, ◌≤◌, length}
use Rattle.std.proofs.Common.{sym, ◌∙◌, ap, arith}
use Rattle.std.proofs.Math.Logic.{by_cases}
use Rattle.std.proofs.Math.Decide.{dec_lt}
use Rattle.std.proofs.Math.ListN.{get_or-eq_default}
use Rattle.basics.specs.Decide.{at}
use Rattle.trees.specs.declared.Tree.{Tree}
use Rattle.trees.specs.Trees.{Table}
use Rattle.removal.specs.Removal.{lonely, Freed, map_indexed, freed_list}
use Rattle.removal.proofs.FreeLonely.{tested}
use Rattle.removal.proofs.Lists.{map_size, map_at, map_only}

module _ (t : Tree) (e : Table) (v : ℕ) where
  -- an entry's number afterwards
  abbrev free : ℕ → ℕ → ℕ
  free i x = cond (lonely t e v i) 0 x

  freed_at : (xs : List ℕ) (i : ℕ) → at (map_indexed free 0 xs) i ≡ free i (at xs i)
  freed_at xs i = by_cases (dec_lt i (length xs))
      (λ l. map_at free 0 xs i l ∙ ap (λ (j : ℕ). free j (at xs i)) (let z : 0 + i ≡ i = omega arith in z))
      (λ l. tested (lonely t e v i)
      (λ h. rw h (past (omega arith)))
      (λ h. rw h (past (omega arith) ∙ sym (get_or-eq_default xs 0 (omega arith)))))
    where
      past : length xs ≤ i → at (map_indexed free 0 xs) i ≡ 0
      past l = get_or-eq_default (map_indexed free 0 xs) 0 (omega (arith, map_size free 0 xs))

  pub freed_is : length e.row ≡ length e.node → Freed t e v (freed_list t e v e.node) (freed_list t e v e.row)
  unfolding freed_list
  freed_is k = record {
    nodes = map_size free 0 e.node;
    rows = map_size free 0 e.row;
    gone = λ i h. (freed_at e.node i ∙ rw h, freed_at e.row i ∙ rw h);
    stays = λ i h. (freed_at e.node i ∙ rw h, freed_at e.row i ∙ rw h);
  }

  pub freed_only : (node row : List ℕ) → Freed t e v node row → (node ≡ freed_list t e v e.node) × (row ≡ freed_list t e v e.row)
  unfolding freed_list
  freed_only node row f = (
    map_only free e.node node f.nodes (λ i l. tested (lonely t e v i) (λ h. (f.gone i h).0 ∙ rw h) (λ h. (f.stays i h).0 ∙ rw h)),
    map_only free e.row row f.rows (λ i l. tested (lonely t e v i) (λ h. (f.gone i h).1 ∙ rw h) (λ h. (f.stays i h).1 ∙ rw h)),
  )
