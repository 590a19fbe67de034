-- Bytes that are 0, and a part of them. Assumes nothing.
use Rattle.std.specs.Prelude.{◌≡◌, refl, ◌≢◌, ◌↔◌, Bool, true, false, List, ℕ, ◌+◌, ◌-◌, ◌≤◌, ◌<◌, eqb, length, take, drop}
use Rattle.std.proofs.Common.{sym, ◌∙◌, ap, arith, length-take, length-drop, get_or-take, get_or-drop, below_more, eqb-true}
use Rattle.std.proofs.lemmas.Bool.{eqb-false}
use Rattle.basics.specs.Decide.{Decides, at}
use Rattle.faults.specs.Faults.{Below}

-- number k is 0
abbrev pub Zero : List ℕ → ℕ → Type 0
Zero xs k = at xs k ≡ 0

-- the numbers from n on, up to another, are 0
abbrev pub ZeroFrom : List ℕ → ℕ → ℕ → Type 0
ZeroFrom xs n to = (m : ℕ) → n ≤ m → m < to → at xs m ≡ 0

pub zero_part : (xs : List ℕ) (n to : ℕ) → to ≤ length xs → (let part = take (to - n) (drop n xs) in Below (Zero part) (length part) ↔ ZeroFrom xs n to)
zero_part xs n to t = (
  λ f m a b. ap (at xs) (let d : m ≡ n + (m - n) = omega arith in d) ∙ sym (same (m - n) (omega arith)) ∙ f (m - n) (simp (length-take, length-drop) (omega arith)),
  λ f k l. let b : k < to - n = omega (arith, simp (length-take, length-drop) at l) in same k b ∙ f (n + k) (omega arith) (omega arith),
)
  where
    same : (k : ℕ) → k < to - n → at (take (to - n) (drop n xs)) k ≡ at xs (n + k)
    same k l = get_or-take (to - n) (drop n xs) k 0 l ∙ get_or-drop n xs k 0

-- the greatest of the first i numbers tells whether they are 0

pub record Greatest (xs : List ℕ) (i most : ℕ) : Type 0 where
  pub none : most ≡ 0 → Below (Zero xs) i
  pub some : most ≢ 0 → Below (Zero xs) i → ⊥

module _ (xs : List ℕ) where
  pub greatest_first : Greatest xs 0 0
  greatest_first = record { none = λ e k l. absurd (omega arith); some = λ e. absurd (e refl) }

  -- number i is no greater, or it is
  pub greatest_kept : {i most : ℕ} → at xs i ≤ most → Greatest xs i most → Greatest xs (i + 1) most
  greatest_kept l g = record { none = λ e. below_more _ _ (g.none e) (omega (arith, l, e)); some = λ e h. g.some e (λ k m. h k (omega arith)) }

  pub greatest_more : (i : ℕ) {most : ℕ} → most < at xs i → Greatest xs (i + 1) (at xs i)
  greatest_more i l = record { none = λ e. absurd (omega arith); some = λ e h. e (h i (omega arith)) }

  -- the test of it
  pub greatest_all : {i most : ℕ} → Greatest xs i most → Decides (eqb most 0) (Below (Zero xs) i)
  greatest_all {i} {most} g = go (eqb most 0) refl
    where
      go : (b : Bool) → eqb most 0 ≡ b → Decides b (Below (Zero xs) i)
      go true e = g.none (eqb-true most 0 e)
      go false e = g.some (eqb-false most 0 e)
