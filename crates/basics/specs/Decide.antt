-- What a test answers, and lists as functions of an index. Definitions first, then their laws. Assumes nothing.
use Rattle.std.specs.Prelude.{◌≡◌, refl, ◌≢◌, ◌↔◌, Bool, true, false, not, ◌&&◌, List, ℕ, eqb, get_or}
use Rattle.std.proofs.Common.{sym, eqb-true}
use Rattle.std.proofs.lemmas.Bool.{false≢true, eqb-false, not-true}

-- b is the answer to P: true with a proof of P, or false with a proof of its opposite
abbrev pub Decides : Bool → Type 0 → Type 0
Decides true P = P
Decides false P = P → ⊥

-- the number at an index of a list, 0 past its end
abbrev pub at : List ℕ → ℕ → ℕ
at xs n = get_or xs n 0

pub decides_iff : {P Q : Type 0} (b : Bool) → P ↔ Q → Decides b P → Decides b Q
decides_iff true e d = e.0 d
decides_iff false e d = λ q. d (e.1 q)

pub decides_true : {P : Type 0} {b : Bool} → Decides b P → P → b ≡ true
decides_true {b = true} d p = refl
decides_true {b = false} d p = absurd (d p)

pub decides_false : {P : Type 0} {b : Bool} → Decides b P → (P → ⊥) → b ≡ false
decides_false {b = true} d p = absurd (p d)
decides_false {b = false} d p = refl

pub decides_eqb : (a b : ℕ) → Decides (eqb a b) (a ≡ b)
decides_eqb a b = go (eqb a b) refl
  where
    go : (x : Bool) → eqb a b ≡ x → Decides x (a ≡ b)
    go true e = eqb-true a b e
    go false e = eqb-false a b e

-- tests joined by `and`, and turned by `not`

pub and_yes : {a b : Bool} → a ≡ true → b ≡ true → (a && b) ≡ true
and_yes p q = rw (p, q)

pub and_no : (a b : Bool) → (a ≡ true → b ≡ true → ⊥) → (a && b) ≡ false
and_no true true h = absurd (h refl refl)
and_no true false h = refl
and_no false b h = refl

pub both : (a b : Bool) → (a && b) ≡ true → (a ≡ true) × (b ≡ true)
both true b e = (refl, e)
both false b e = absurd (false≢true e)

pub not_yes : {b : Bool} → b ≡ false → not b ≡ true
not_yes e = rw e

pub not_no : {b : Bool} → b ≡ true → not b ≡ false
not_no e = rw e

pub not_of : (a n : ℕ) → not (eqb a n) ≡ true → a ≢ n
not_of a n e = eqb-false a n (not-true _ e)

-- after a test `if !b`: what was asked holds, or it does not
pub passed : {P : Type 0} (b : Bool) → Decides b P → not b ≡ false → P
passed true d e = d
passed false d e = absurd (false≢true (sym e))

pub failed : {P : Type 0} (b : Bool) → Decides b P → not b ≡ true → P → ⊥
failed true d e = absurd (false≢true e)
failed false d e = d

-- the same after a test `if b`
pub holds : {P : Type 0} (b : Bool) → Decides b P → b ≡ true → P
holds true d e = d
holds false d e = absurd (false≢true e)

pub fails : {P : Type 0} (b : Bool) → Decides b P → b ≡ false → P → ⊥
fails true d e = absurd (false≢true (sym e))
fails false d e = d
