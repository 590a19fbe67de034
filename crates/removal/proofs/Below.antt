-- A ghost is neither node 0 nor its own parent; and who reads a node's own row: itself, or nodes below a child without that row. Assumes nothing.
use Rattle.std.specs.Prelude.{◌≡◌, refl, ◌≢◌, ◌⊎◌, ℕ, ◌+◌, ◌<◌}
use Rattle.std.proofs.Common.{sym, ◌∙◌, ap, inl, inr, arith}
use Rattle.basics.specs.Decide.{at}
use Rattle.trees.specs.declared.Tree.{Tree}
use Rattle.trees.specs.Trees.{Table, InUse, Ghost, up, Child, Reaches}
use Rattle.records.specs.Records.{Records, table}
use Rattle.trees.specs.Reading.{Owns, Reads, origin, own, above}
use Rattle.trees.specs.Rules.{States, Linked}
use Rattle.tree.specs.Going.{reaches_ind}
use Rattle.edits.proofs.WriteReaders.{alive_used}
use Rattle.removal.specs.Removal.{Nearly}

-- a node that reaches node 0 is not its own parent, unless it is node 0
no_loop : (f : ℕ → ℕ) (n : ℕ) → Reaches f n → f n ≡ n → n ≡ 0
no_loop f n r = reaches_ind f (λ k. f k ≡ k → k ≡ 0) (λ e. refl) (λ k h q e. sym e ∙ q (ap f e)) n r

module _ (t : Tree) (s : States t) (x : ℕ) (g : Ghost t x) where
  pub ghost_used : InUse t x
  ghost_used = (g.0, omega (arith, g.1))

  pub ghost_off : x ≢ 0
  ghost_off h = omega (arith, ap (at t.state) h, g.1, s.root.0)

  pub ghost_parent : Linked t → up t x ≢ x
  ghost_parent l h = ghost_off (no_loop (up t) x (l.reaches x ghost_off ghost_used) h)

-- a child of x that has no own row r
abbrev pub BareChild : Tree → Table → ℕ → ℕ → Type 0
BareChild t e x r = (d : ℕ) × Child t x d × ((j : ℕ) → Owns e d r j → ⊥)

module _ (t : Tree) (l : Linked t) (e : Table) (x r i : ℕ) (o : Owns e x r i) (low : r < e.rows) where
  -- entry i is x's own row r: a node in use that reads it is x, or there is such a child (on the way from the node up to x)
  pub reader_below : {p n : ℕ} → p ≡ e.rows + i → InUse t n → Reads t e r p n → (n ≡ x) ⊎ BareChild t e x r
  reader_below h u (origin a b) = absurd (omega arith)
  reader_below h u (own {i = j} a q b) =
      let k : j ≡ i = omega arith in
      inl (sym q.1 ∙ ap (at e.node) k ∙ o.1)
  reader_below {n = n} h u (above a q d) = elim (reader_below h (l.parent n a u) d) [
    | inl y ↦ inr (n, (a, u, y), q)
    | inr y ↦ inr y
  ]

module _ (z : Records) (x : ℕ) (s : Nearly z x) (g : Ghost z.tree x) where
  -- a ghost's own row has a living reader, and so a child without it
  pub bare_child : (r i : ℕ) → Owns (table z) x r i → BareChild z.tree (table z) x r
  bare_child r i o =
      let f : at z.node i ≢ 0 = λ y. ghost_off z.tree s.states x g (sym o.1 ∙ y) in
      let (n, a, d) = s.all_read i o.0 f in
      let w : r < z.size.rows = rw o.2 at (s.excepting.named i o.0 f).1 in
      elim (reader_below z.tree s.linked (table z) x r i o w refl (alive_used z.tree n a) (rw o.2 at d)) [
        | inl y ↦ absurd (omega (arith, ap (at z.tree.state) y, a.1, g.1))
        | inr y ↦ y
      ]
