-- What an accepted turn leaves, bit by bit; and the two theorems: a row turned to cable order and back is what it was, and so is one turned back
-- and to cable order. Assumes nothing.
use Rattle.std.specs.Prelude.{◌≡◌, refl, List, ℕ, ◌<◌, length}
use Rattle.std.proofs.Common.{sym, ◌∙◌, ap, ap₂}
use Rattle.answers.proofs.Laws.{verdict_none}
use Rattle.hooks.specs.Order.{hook_at, position_of}
use Rattle.hooks.proofs.Laws.{hook_below, position_below, hook_of_position, position_of_hook}
use Rattle.rowbits.specs.Bits.{bit_of, Bytes}
use Rattle.cables.specs.Cables.{turned, to_cable, from_cable, turn_verdict, Turns}
use Rattle.cables.proofs.Laws.{turned_bit, turned_size, turned_told, accepted}

-- bit by bit

turns_bit : (f : ℕ → ℕ) (row out out' : List ℕ) → Turns (turned f) row out 0 out' → (n : ℕ) → n < 1024 → bit_of out' n ≡ bit_of row (f n)
turns_bit f row out out' t n l =
    let v = verdict_none (turn_verdict row out) (sym t.answers) in
    ap₂ bit_of (rw v at t.leaves) refl ∙ turned_bit f row n l

-- each position carries the bit of its hook
pub to_cable_bit : (row out out' : List ℕ) → Turns to_cable row out 0 out' → (n : ℕ) → n < 1024 → bit_of out' n ≡ bit_of row (hook_at n)
to_cable_bit = turns_bit hook_at

-- each hook has the bit of its position
pub from_cable_bit : (row out out' : List ℕ) → Turns from_cable row out 0 out' → (h : ℕ) → h < 1024 → bit_of out' h ≡ bit_of row (position_of h)
from_cable_bit = turns_bit position_of

-- there and back

-- what f does to positions, g undoes
module _ (f g : ℕ → ℕ) (below : (n : ℕ) → n < 1024 → g n < 1024) (undone : (n : ℕ) → n < 1024 → f (g n) ≡ n) where
  turned_back : (row : List ℕ) → length row ≡ 128 → Bytes row → turned g (turned f row) ≡ row
  turned_back row s b = sym (turned_told g (turned f row) row s b (λ n l. sym (turned_bit f row (g n) (below n l) ∙ ap (bit_of row) (undone n l))))

  -- the same of two turns, the second of what the first left
  turns_back : (row out back : List ℕ) → Bytes row → length row ≡ 128 → length out ≡ 128 → length back ≡ 128 → (a b : ℕ) (out' back' : List ℕ)
      → Turns (turned f) row out a out' → Turns (turned g) out' back b back' → (a ≡ 0) × (b ≡ 0) × (back' ≡ row)
  turns_back row out back w s t u a b out' back' p q =
      let v = accepted (turned f) row out s t in
      let o : out' ≡ turned f row = rw v at p.leaves in
      let v' = accepted (turned g) out' back (ap length o ∙ turned_size f row) u in
      (rw v at p.answers, rw v' at q.answers, rw v' at q.leaves ∙ ap (turned g) o ∙ turned_back row s w)

module _ (row out back : List ℕ) (bytes : Bytes row) (r : length row ≡ 128) (o : length out ≡ 128) (k : length back ≡ 128) (a b : ℕ) (out' back' : List ℕ) where
  pub to_and_back : Turns to_cable row out a out' → Turns from_cable out' back b back' → (a ≡ 0) × (b ≡ 0) × (back' ≡ row)
  to_and_back = turns_back hook_at position_of position_below hook_of_position row out back bytes r o k a b out' back'

  pub back_and_to : Turns from_cable row out a out' → Turns to_cable out' back b back' → (a ≡ 0) × (b ≡ 0) × (back' ≡ row)
  back_and_to = turns_back position_of hook_at hook_below position_of_hook row out back bytes r o k a b out' back'
