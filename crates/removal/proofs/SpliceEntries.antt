-- A table in which the entries of node x are made node w's, where no row is an own row of both: which own rows there are then. Assumes nothing.
use Rattle.std.specs.Prelude.{◌≡◌, refl, ◌≢◌, ◌⊎◌, List, ℕ, ◌<◌, length}
use Rattle.std.proofs.Common.{sym, ◌∙◌, inl, inr, arith, eq-eqb, ne_eqb}
use Rattle.std.proofs.Math.Logic.{by_cases}
use Rattle.std.proofs.Math.Option.{Option, none, some}
use Rattle.std.proofs.Math.Decide.{ℕ_discrete}
use Rattle.basics.specs.Decide.{at}
use Rattle.trees.specs.Trees.{Table, table_of}
use Rattle.trees.specs.Reading.{Owns, entry, place_or}
use Rattle.reading.specs.Reads.{entry_some, entry_none, entry_own}
use Rattle.removal.specs.Removal.{Relabelled}

-- the table with these nodes
abbrev pub renamed : Table → List ℕ → Table
renamed e node = table_of e.rows node e.row

module _ (e : Table) (x w : ℕ) (node' : List ℕ) (l : Relabelled e.node x w node') where
  -- the entries, one by one

  pub node_moved : (i : ℕ) → i < length e.node → at e.node i ≡ x → at node' i ≡ w
  node_moved i h k = l.each i h ∙ rw (eq-eqb (at e.node i) x k)

  pub node_kept : (i : ℕ) → i < length e.node → at e.node i ≢ x → at node' i ≡ at e.node i
  node_kept i h k = l.each i h ∙ rw (ne_eqb (at e.node i) x k)

  -- own rows: x's are w's, and the others stay

  owns_moved : (r i : ℕ) → Owns e x r i → Owns (renamed e node') w r i
  owns_moved r i o = (omega (arith, o.0, l.size), node_moved i o.0 o.1, o.2)

  owns_kept : (n r i : ℕ) → n ≢ x → Owns e n r i → Owns (renamed e node') n r i
  owns_kept n r i h o = (omega (arith, o.0, l.size), node_kept i o.0 (λ y. h (sym o.1 ∙ y)) ∙ o.1, o.2)

  owns_back : (n r i : ℕ) → Owns (renamed e node') n r i → ((n ≡ w) × Owns e x r i) ⊎ Owns e n r i
  owns_back n r i o =
      let h : i < length e.node = omega (arith, o.0, l.size) in
      by_cases (ℕ_discrete (at e.node i) x)
      (λ y. inl (sym o.1 ∙ node_moved i h y, (h, y, o.2)))
      (λ y. inr (h, sym (node_kept i h y) ∙ o.1, o.2))

  module _ (off : x ≢ 0) (once : (i j n r : ℕ) → n ≢ 0 → Owns e n r i → Owns e n r j → i ≡ j) (apart : (r i j : ℕ) → Owns e x r i → Owns e w r j → ⊥) where
    pub renamed_once : (i j n r : ℕ) → n ≢ 0 → Owns (renamed e node') n r i → Owns (renamed e node') n r j → i ≡ j
    renamed_once i j n r f a b = go (owns_back n r i a) (owns_back n r j b)
      where
        go : ((n ≡ w) × Owns e x r i) ⊎ Owns e n r i → ((n ≡ w) × Owns e x r j) ⊎ Owns e n r j → i ≡ j
        go (inl p) (inl q) = once i j x r off p.1 q.1
        go (inl p) (inr q) = absurd (apart r i j p.1 (rw p.0 at q))
        go (inr p) (inl q) = absurd (apart r j i q.1 (rw q.0 at p))
        go (inr p) (inr q) = once i j n r f p q

    entry_bare : (n r : ℕ) → (n ≡ w → entry e x r ≡ none) → entry e n r ≡ none → entry (renamed e node') n r ≡ none
    entry_bare n r f h = go (entry (renamed e node') n r) refl
      where
        go : (o : Option ℕ) → entry (renamed e node') n r ≡ o → entry (renamed e node') n r ≡ none
        go none k = k
        go (some i) k = elim (owns_back n r i (entry_some (renamed e node') n r i k)) [
          | inl y ↦ absurd (entry_none e x r (f y.0) i y.1)
          | inr y ↦ absurd (entry_none e n r h i y)
        ]

    pub entry_kept : (n r : ℕ) → n ≢ 0 → n ≢ x → n ≢ w → entry (renamed e node') n r ≡ entry e n r
    entry_kept n r f h k = go (entry e n r) refl
      where
        go : (o : Option ℕ) → entry e n r ≡ o → entry (renamed e node') n r ≡ entry e n r
        go (some i) p = entry_own (renamed e node') renamed_once n r i f (owns_kept n r i h (entry_some e n r i p)) ∙ sym p
        go none p = entry_bare n r (λ y. absurd (k y)) p ∙ sym p

    -- w's own row, or else what was x's
    pub entry_moved : (r p : ℕ) → w ≢ 0 → w ≢ x → place_or e.rows (entry (renamed e node') w r) p ≡ place_or e.rows (entry e w r) (place_or e.rows (entry e x r) p)
    entry_moved r p f h = go (entry e w r) refl (entry e x r) refl
      where
        go : (o : Option ℕ) → entry e w r ≡ o → (q : Option ℕ) → entry e x r ≡ q
            → place_or e.rows (entry (renamed e node') w r) p ≡ place_or e.rows (entry e w r) (place_or e.rows (entry e x r) p)
        go (some i) a q b = rw (a, entry_own (renamed e node') renamed_once w r i f (owns_kept w r i h (entry_some e w r i a)))
        go none a (some i) b = rw (a, b, entry_own (renamed e node') renamed_once w r i f (owns_moved r i (entry_some e x r i b)))
        go none a none b = rw (a, b, entry_bare w r (λ y. b) a)
