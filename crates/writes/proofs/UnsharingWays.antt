-- The last test of a write, and what becomes of a shared row by its cases. Assumes nothing.
use Rattle.std.specs.Prelude.{◌≡◌, refl, ◌≢◌, Bool, true, false, ◌&&◌, ℕ, ◌+◌, ◌≤◌, leb}
use Rattle.std.proofs.Common.{◌∙◌, arith, eq-eqb, ne_eqb, le-leb, leb-true}
use Rattle.std.proofs.lemmas.Bool.{false≢true}
use mathlib.Core.List.{List, []}
use Rattle.std.proofs.Math.Option.{none, some}
use Rattle.std.proofs.Math.ListN.{length}
use Rattle.basics.specs.Decide.{and_yes, and_no}
use Rattle.basics.proofs.CountLaws.{count_most}
use Rattle.trees.specs.Trees.{Table, taken, used}
use Rattle.records.specs.Records.{Records, table}
use Rattle.records.specs.Sound.{Sound}
use Rattle.answers.specs.declared.Refusal.TheVariants.{PlacesFull}
use Rattle.answers.specs.Tests.{refusal}
use Rattle.answers.proofs.Laws.{refusal_here, refusal_next, refusal_none}
use Rattle.nodes.specs.Nodes.{first_child}
use Rattle.sharing.specs.Sharing.{free_entry, shared_at}
use Rattle.sharing.specs.Laws.{full_used}
use Rattle.moving.specs.Moving.{held_to_free}
use Rattle.saving.specs.Saving.{saving_by}
use Rattle.writes.specs.Unsharing.{shared_by, full_test, shared_to}

used_most : (e : Table) → used e ≤ e.rows + length e.node
unfolding used
used_most e = omega (arith, count_most (taken e) (length e.node))

-- The last test

module _ (z : Records) (s : Sound z) (v r : ℕ) where
  all_places : z.size.rows + length z.node ≡ z.size.places
  all_places = let m = s.measured in omega (arith, m.nodes, m.within.places.0)

  pub full_refused : shared_at z.tree (table z) v r ≡ true → free_entry z.node ≡ none → refusal (full_test z (some v) r) ≡ some PlacesFull
  unfolding full_test
  full_refused h f = refusal_here PlacesFull [] (and_yes h (le-leb z.size.places (used (table z)) (omega (arith, (full_used (table z)).0 f, all_places))))

  pub free_passes : (i : ℕ) → free_entry z.node ≡ some i → refusal (full_test z (some v) r) ≡ none
  unfolding full_test
  free_passes i f = refusal_next PlacesFull [] (go (leb z.size.places (used (table z))) refl) ∙ refusal_none
    where
      most : used (table z) ≤ z.size.rows + length z.node
      most = used_most (table z)

      go : (b : Bool) → leb z.size.places (used (table z)) ≡ b → (shared_by z (some v) r && leb z.size.places (used (table z))) ≡ false
      go false h = rw h (and_no (shared_by z (some v) r) false (λ a b. absurd (false≢true b)))
      go true h =
          let n : free_entry z.node ≡ none = (full_used (table z)).1 (omega (arith, leb-true z.size.places (used (table z)) h, most, all_places)) in
          let w : ◌≡◌ {A = ℕ} 0 1 = cc in
          absurd (omega arith)

-- The effect, by its cases

module _ (z : Records) (places : List ℕ) (r : ℕ) (bs : List ℕ) (v i : ℕ) (f : free_entry z.node ≡ some i) where
  pub shared_saving : v ≡ 0 → shared_to z places r bs v (free_entry z.node) ≡ saving_by z places r bs (first_child z.tree 0) i
  shared_saving e = rw (f, eq-eqb v 0 e)

  pub shared_to_free : v ≢ 0 → shared_to z places r bs v (free_entry z.node) ≡ held_to_free z places r bs v i
  shared_to_free n = rw (f, ne_eqb v 0 n)
