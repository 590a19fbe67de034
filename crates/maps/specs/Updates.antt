-- Functions that are changed at one cell or one number, and the origin's readers sent elsewhere. Assumes nothing.
use Rattle.std.specs.Prelude.{◌≡◌, ◌≢◌, ◌↔◌, ℕ, eqb}
use Rattle.std.proofs.Common.{ap, arith}
use Rattle.std.proofs.Math.Logic.{by_cases}
use Rattle.std.proofs.Math.Bool.{and-false}
use Rattle.std.proofs.Math.Decide.{ℕ_discrete}
use borrow.Author.Tests.{eq-eqb, ne_eqb}
use Rattle.copies.specs.Copies.{Cell, put}
use Rattle.maps.specs.Map.{poke, divert}

pub same_cell : (a b : Cell) → Dec (a ≡ b)
same_cell a b = go (ℕ_discrete a.0 b.0) (ℕ_discrete a.1 b.1)
  where
    go : Dec (a.0 ≡ b.0) → Dec (a.1 ≡ b.1) → Dec (a ≡ b)
    go (yes p) (yes q) = yes (λ i. (p i, q i))
    go (yes p) (no k) = no (λ e. k (ap (λ (c : Cell). c.1) e))
    go (no k) q = no (λ e. k (ap (λ (c : Cell). c.0) e))

module _ {A : Type 0} (c : Cell) (v : A) (f : Cell → A) where
  pub put_at_lem : {d : Cell} → d ≡ c → put c v f d ≡ v
  unfolding put
  put_at_lem {d} e = rw (eq-eqb d.0 c.0 (ap (λ (x : Cell). x.0) e), eq-eqb d.1 c.1 (ap (λ (x : Cell). x.1) e))

  pub put_off : {d : Cell} → d ≢ c → put c v f d ≡ f d
  unfolding put
  put_off {d} h = by_cases (ℕ_discrete d.0 c.0)
      (λ p. rw (eq-eqb d.0 c.0 p, ne_eqb d.1 c.1 (λ q. h (λ i. (p i, q i)))))
      (λ p. rw (ne_eqb d.0 c.0 p))

module _ {A : Type 0} (n : ℕ) (v : A) (f : ℕ → A) where
  pub poke_at : {k : ℕ} → k ≡ n → poke n v f k ≡ v
  unfolding poke
  poke_at {k} e = rw (eq-eqb k n e)

  pub poke_off : {k : ℕ} → k ≢ n → poke n v f k ≡ f k
  unfolding poke
  poke_off {k} h = rw (ne_eqb k n h)

-- q for r, and every other number itself
abbrev pub renamed : ℕ → ℕ → ℕ → ℕ
renamed r q = poke r q (λ v. v)

module _ (r q : ℕ) where
  pub renamed_iff : (a b : ℕ) → a ≢ q → b ≢ q → renamed r q a ≡ renamed r q b ↔ a ≡ b
  renamed_iff a b h k = by_cases (ℕ_discrete a r)
      (λ i. rw (poke_at r q (λ v. v) i) (by_cases (ℕ_discrete b r) (λ j. rw (poke_at r q (λ v. v) j) (omega arith)) (λ j. rw (poke_off r q (λ v. v) j) (omega arith))))
      (λ i. rw (poke_off r q (λ v. v) i) (by_cases (ℕ_discrete b r) (λ j. rw (poke_at r q (λ v. v) j) (omega arith)) (λ j. rw (poke_off r q (λ v. v) j) (omega arith))))

  pub renamed_other : (a : ℕ) → q ≢ r → renamed r q a ≢ r
  renamed_other a h = by_cases (ℕ_discrete a r) (λ i. rw (poke_at r q (λ v. v) i) h) (λ i. rw (poke_off r q (λ v. v) i) i)

  module _ (f : Cell → ℕ) where
    pub divert_origin : (k : ℕ) → divert r q f (0, k) ≡ f (0, k)
    unfolding divert
    divert_origin k = rw (and-false (eqb (f (0, k)) r))

    pub divert_renames : (c : Cell) → (f c ≡ r → c.0 ≢ 0) → divert r q f c ≡ renamed r q (f c)
    unfolding divert poke
    divert_renames c h = by_cases (ℕ_discrete (f c) r) (λ e. rw (eq-eqb (f c) r e, ne_eqb c.0 0 (h e))) (λ e. rw (ne_eqb (f c) r e))
