-- Exceptions that are seen to be read at one look: by their own node, or by a living child of their ghost. Assumes nothing.
use Rattle.std.specs.Prelude.{◌≡◌, refl, ◌≢◌, ◌⊎◌, Bool, true, false, not, List, ℕ, ◌≤◌, ◌<◌, length}
use Rattle.std.proofs.Common.{sym, ◌∙◌, ap, inr, ⊎_elim, arith}
use Rattle.std.proofs.Math.Logic.{by_cases}
use Rattle.std.proofs.lemmas.Bool.{false≢true}
use Rattle.std.proofs.Math.Decide.{ℕ_discrete}
use Rattle.basics.specs.Decide.{Decides, at}
use Rattle.faults.specs.Faults.{Below}
use Rattle.bits.specs.Bits.{has}
use Rattle.trees.specs.declared.Tree.{Tree}
use Rattle.trees.specs.Trees.{Table, InUse}
use Rattle.kinds.specs.Kinds.{AtMost}
use Rattle.nearing.specs.Near.{Near}
use Rattle.table.specs.Rules.{slot, Judging, ReadAt, here, above}
use Rattle.table.proofs.Laws.{read_own, met_read}

-- entry i is free, or what is near its node has no mark at its row
abbrev pub Clear : List ℕ → Table → List ℕ → ℕ → Type 0
Clear near e marks i = (at e.node i ≡ 0) ⊎ (has marks (slot (at near (at e.node i)) (at e.row i)) ≡ false)

-- the entries before k are clear, and entry k is not
pub record ClearTo (near : List ℕ) (e : Table) (marks : List ℕ) (k : ℕ) : Type 0 where
  pub most : k ≤ length e.node
  pub before : Below (Clear near e marks) k
  pub first : k < length e.node → Clear near e marks k → ⊥

-- an exception is clear if what is near it has no mark
pub clear_mark : (near : List ℕ) (e : Table) (marks : List ℕ) (i : ℕ) (b : Bool) → at e.node i ≢ 0 → b ≡ has marks (slot (at near (at e.node i)) (at e.row i)) → Decides (not b) (Clear near e marks i)
clear_mark near e marks i true z h = ⊎_elim z (λ x. false≢true (sym x ∙ sym h))
clear_mark near e marks i false z h = inr (sym h)

module _ (t : Tree) (e : Table) (marks : List ℕ) (h : Judging t e marks) where
  -- where no node is a ghost, every exception is read by its own node
  pub lively_read : Below (AtMost t.state 1) 128 → (i : ℕ) → i < length e.node → ReadAt t e i
  lively_read a i l z = let (u, b) = h.excepting.named i l z in read_own t e marks h i l (omega (arith, a _ u.0, u.1)) z

  -- what is clear is read
  pub clear_read : (near : List ℕ) → Near t near → (i : ℕ) → i < length e.node → Clear near e marks i → ReadAt t e i
  clear_read near n i l d z = by_cases (ℕ_discrete (at t.state g) 1)
      (λ a. read_own t e marks h i l a z)
      (λ a. ⊎_elim (λ x. absurd (z x)) (λ x. ⊎_elim
      (λ y. absurd (false≢true (sym x ∙ rw y (h.marked.named g r i z w.0.0 w.1 l (l, refl, refl)))))
      (λ y. let (q, v, p) = y in (met_read t e marks h g r i z (l, refl, refl)).0 (at near g, v, above (λ k. a (sym (ap (at t.state) k) ∙ v.1)) q x (here p)) z)
      (n.heir g w.0.0 a)) d)
    where
      g : ℕ
      g = at e.node i

      r : ℕ
      r = at e.row i

      w : InUse t g × (r < e.rows)
      w = h.excepting.named i l z
