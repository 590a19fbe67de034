-- The places in use of sound records are exactly those that living versions read. Assumes nothing.
use Rattle.std.specs.Prelude.{◌≡◌, ◌↔◌, ℕ, ◌+◌, ◌<◌}
use Rattle.std.proofs.Common.{sym, ◌∙◌, inl, inr, arith}
use Rattle.basics.specs.Decide.{at}
use Rattle.trees.specs.declared.Tree.{Tree}
use Rattle.trees.specs.Trees.{Table, InUse, Alive, PlaceUsed}
use Rattle.records.specs.Records.{Records, table}
use Rattle.trees.specs.Reading.{Reads, origin, own, above, place}
use Rattle.records.specs.Sound.{Sound}
use Rattle.reading.specs.Reads.{place_reads, reads_place, place_root}

-- some living version reads place p, at some row
abbrev pub PlaceRead : Tree → Table → ℕ → Type 0
PlaceRead t e p = (n : ℕ) × (r : ℕ) × Alive t n × (r < e.rows) × (place t e n r ≡ p)

-- what a node reads is in use
reads_used : (t : Tree) (e : Table) {r p n : ℕ} → r < e.rows → Reads t e r p n → PlaceUsed e p
reads_used t e l (origin x y) = inl (omega arith)
reads_used t e {n = n} l (own {i = i} x o y) = inr (i, o.0, (λ z. x (sym o.1 ∙ z)), y)
reads_used t e l (above x o d) = reads_used t e l d

pub used_read : (z : Records) → Sound z → (p : ℕ) → PlaceUsed (table z) p ↔ PlaceRead z.tree (table z) p
used_read z s p = (to, from)
  where
    to : PlaceUsed (table z) p → PlaceRead z.tree (table z) p
    to (inl h) = (0, p, (omega arith, s.states.root.0), h, place_root z.tree s.linked (table z) p)
    to (inr (i, l, x, e)) =
        let (n, a, d) = s.all_read i l x in
        let used : InUse z.tree n = (a.0, omega (arith, a.1)) in
        (n, at z.row i, a, (s.excepting.named i l x).1, sym ((reads_place z.tree s.linked (table z) s.excepting n (at z.row i) (z.size.rows + i) used).0 d) ∙ sym e)

    from : PlaceRead z.tree (table z) p → PlaceUsed (table z) p
    from (n, r, a, l, e) = rw (← e) (reads_used z.tree (table z) l (place_reads z.tree s.linked (table z) n r (a.0, omega (arith, a.1))))

-- and so what a node in use reads is below P
pub place_low : (z : Records) → Sound z → (n r : ℕ) → InUse z.tree n → r < z.size.rows → place z.tree (table z) n r < z.size.places
place_low z s n r u l = go (reads_used z.tree (table z) l (place_reads z.tree s.linked (table z) n r u))
  where
    go : {p : ℕ} → PlaceUsed (table z) p → p < z.size.places
    go (inl h) = omega (arith, s.measured.within.places.0)
    go (inr (i, h, x, e)) = omega (arith, s.measured.nodes, s.measured.within.places.0)
