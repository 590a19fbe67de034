-- Entering an exception: entry i, free before, gets node v and row r, where v had no own row. Which own rows there are then, and rule 6. Assumes nothing.
use Rattle.std.specs.Prelude.{◌≡◌, ◌≢◌, ◌⊎◌, ℕ, ◌<◌, length}
use Rattle.std.proofs.Math.Path.{refl, sym, ap}
use Rattle.std.proofs.Common.{◌∙◌, arith, length-set}
use Rattle.std.proofs.Math.Logic.{inl, inr, by_cases}
use Rattle.std.proofs.Math.Option.{Option, none, some}
use Rattle.std.proofs.Math.Decide.{ℕ_discrete}
use Rattle.basics.specs.Decide.{at}
use Rattle.trees.specs.Trees.{Table, InUse}
use Rattle.records.specs.Records.{Records, table}
use Rattle.trees.specs.Reading.{Owns, entry}
use Rattle.trees.specs.Rules.{Excepting}
use Rattle.records.specs.Sound.{Sound}
use Rattle.reading.specs.Reads.{entry_some, entry_none, entry_own}
use Rattle.edits.specs.Edits.{with_entry, FreeEntry}
use Rattle.edits.proofs.Solve.{at_same, at_other}

-- v is in use and not node 0, r is a row that v does not have as its own, and entry i is free
pub record Enters (z : Records) (v r i : ℕ) : Type 0 where
  pub sound : Sound z
  pub off : v ≢ 0
  pub used : InUse z.tree v
  pub low : r < z.size.rows
  pub free : FreeEntry z i
  pub bare : entry (table z) v r ≡ none

-- the table with the new entry
abbrev pub entered : Records → ℕ → ℕ → ℕ → Table
entered z v r i = table (with_entry z i v r)

module _ (z : Records) (v r i : ℕ) (h : Enters z v r i) where
  -- the entries, one by one

  row_inside : i < length z.row
  row_inside = omega (arith, h.free.0, h.sound.measured.rows, h.sound.measured.nodes)

  node_new : at (entered z v r i).node i ≡ v
  node_new = at_same z.node i v h.free.0

  pub row_new : at (entered z v r i).row i ≡ r
  row_new = at_same z.row i r row_inside

  pub node_old : (j : ℕ) → j ≢ i → at (entered z v r i).node j ≡ at z.node j
  node_old j d = at_other z.node i v h.free.0 j d

  pub row_old : (j : ℕ) → j ≢ i → at (entered z v r i).row j ≡ at z.row j
  row_old j d = at_other z.row i r row_inside j d

  pub as_long : length (entered z v r i).node ≡ length z.node
  as_long = length-set z.node i v

  -- own rows: the new one, and the old ones

  owns_new : Owns (entered z v r i) v r i
  owns_new = (omega (arith, h.free.0, as_long), node_new, row_new)

  owns_old : (n k j : ℕ) → n ≢ 0 → Owns (table z) n k j → Owns (entered z v r i) n k j
  owns_old n k j f o =
      let d : j ≢ i = λ x. f (sym o.1 ∙ ap (at z.node) x ∙ h.free.1) in
      (omega (arith, o.0, as_long), node_old j d ∙ o.1, row_old j d ∙ o.2)

  -- an own row afterwards is the new one, or one of before
  NewOrOld : ℕ → ℕ → ℕ → Type 0
  NewOrOld n k j = ((n ≡ v) × (k ≡ r) × (j ≡ i)) ⊎ Owns (table z) n k j

  owns_back : (n k j : ℕ) → Owns (entered z v r i) n k j → NewOrOld n k j
  unfolding NewOrOld
  owns_back n k j o = by_cases (ℕ_discrete j i)
      (λ x. inl (sym o.1 ∙ ap (at (entered z v r i).node) x ∙ node_new, sym o.2 ∙ ap (at (entered z v r i).row) x ∙ row_new, x))
      (λ x. inr (omega (arith, o.0, as_long), sym (node_old j x) ∙ o.1, sym (row_old j x) ∙ o.2))

  owns_once : (a b n k : ℕ) → n ≢ 0 → Owns (entered z v r i) n k a → Owns (entered z v r i) n k b → a ≡ b
  unfolding NewOrOld
  owns_once a b n k f x y = go (owns_back n k a x) (owns_back n k b y)
    where
      go : NewOrOld n k a → NewOrOld n k b → a ≡ b
      go (inl p) (inl q) = p.2 ∙ sym q.2
      go (inl p) (inr q) = absurd (entry_none (table z) v r h.bare b (rw (p.0, p.1) at q))
      go (inr p) (inl q) = absurd (entry_none (table z) v r h.bare a (rw (q.0, q.1) at p))
      go (inr p) (inr q) = h.sound.excepting.once a b n k f p q

  pub entry_new : entry (entered z v r i) v r ≡ some i
  entry_new = entry_own (entered z v r i) owns_once v r i h.off owns_new

  pub entry_old : (n k : ℕ) → n ≢ 0 → (n ≡ v → k ≡ r → ⊥) → entry (entered z v r i) n k ≡ entry (table z) n k
  unfolding NewOrOld
  entry_old n k f d = go (entry (table z) n k) refl (entry (entered z v r i) n k) refl
    where
      go : (o : Option ℕ) → entry (table z) n k ≡ o → (q : Option ℕ) → entry (entered z v r i) n k ≡ q → entry (entered z v r i) n k ≡ entry (table z) n k
      go (some j) p q x = entry_own (entered z v r i) owns_once n k j f (owns_old n k j f (entry_some (table z) n k j p)) ∙ sym p
      go none p none x = x ∙ sym p
      go none p (some j) x = elim (owns_back n k j (entry_some (entered z v r i) n k j x)) [
        | inl y ↦ absurd (d y.0 y.1)
        | inr y ↦ absurd (entry_none (table z) n k p j y)
      ]

  pub enter_excepting : Excepting z.tree (entered z v r i)
  enter_excepting = record {
    free = λ j l f. by_cases (ℕ_discrete j i)
        (λ x. absurd (h.off (sym node_new ∙ ap (at (entered z v r i).node) (sym x) ∙ f)))
        (λ x. row_old j x ∙ h.sound.excepting.free j (omega (arith, as_long)) (sym (node_old j x) ∙ f));
    named = λ j l f. by_cases (ℕ_discrete j i)
        (λ x. rw x (rw (node_new, row_new) (h.used, h.low)))
        (λ x. rw (node_old j x, row_old j x) (h.sound.excepting.named j (omega (arith, as_long)) (λ y. f (node_old j x ∙ y))));
    once = owns_once;
  }
