-- A row in cable order is made bit by bit, and byte by byte. Assumes nothing.
use Rattle.std.specs.Prelude.{◌≡◌, List, ℕ, ◌+◌, ◌*◌, ◌^◌, ◌≤◌, ◌<◌, length, set}
use Rattle.std.proofs.Math.Path.{sym, ap}
use Rattle.std.proofs.Common.{◌∙◌, ap₂, add-one, arith, length-set, pow_mono, get_or-set_same, get_or-set_other, ext_get_or}
use Rattle.std.proofs.Math.Logic.{by_cases}
use Rattle.std.proofs.Math.Decide.{ℕ_discrete}
use Rattle.basics.specs.Decide.{at}
use Rattle.hooks.specs.Order.{hook_at}
use Rattle.rowbits.specs.Bits.{bit_of, binary}
use Rattle.rowbits.specs.Laws.{bit_two, binary_none, binary_more, binary_below, row_byte}
use Rattle.cables.specs.Cables.{turned, to_cable}
use Rattle.cables.proofs.Laws.{turned_size}

-- the bits of byte j in cable order
abbrev pub bits_of : List ℕ → ℕ → ℕ → ℕ
bits_of row j i = bit_of row (hook_at (8 * j + i))

-- the first k of them are gathered
pub record Gathered (row : List ℕ) (j byte k : ℕ) : Type 0 where
  pub most : k ≤ 8
  pub bits : byte ≡ binary (bits_of row j) k

-- the first j bytes are laid
pub record Gathering (row out : List ℕ) (j : ℕ) : Type 0 where
  pub most : j ≤ 128
  pub size : length out ≡ 128
  pub bytes : (i : ℕ) → i < j → at out i ≡ at (to_cable row) i

module _ (row : List ℕ) (j : ℕ) where
  pub gathered_none : Gathered row j 0 0
  gathered_none = record { most = omega arith; bits = sym (binary_none _) }

  module _ {byte k : ℕ} (g : Gathered row j byte k) where
    pub gathered_room : k < 8 → byte < 128
    gathered_room l =
        let p : 2 ^ k ≤ 2 ^ 7 = pow_mono {i = k} {j = 7} (omega arith) in
        omega (arith, g.bits, binary_below (bits_of row j) (λ i. bit_two row (hook_at (8 * j + i))) k, p)

    pub gathered_more : k < 8 → (bit : ℕ) → bit ≡ bit_of row (hook_at (8 * j + k)) → Gathered row j (byte * 2 + bit) (k + 1)
    gathered_more l bit e = record { most = omega arith; bits = ap₂ (λ (x y : ℕ). x * 2 + y) g.bits e ∙ sym (binary_more (bits_of row j) k) ∙ ap (binary (bits_of row j)) (sym (add-one k)) }

    pub gathered_all : j < 128 → 8 ≤ k → byte ≡ at (to_cable row) j
    unfolding turned
    gathered_all l m = g.bits ∙ ap (binary (bits_of row j)) (let e : k ≡ 8 = omega (arith, g.most) in e) ∙ sym (row_byte 128 _ j l)

module _ (row : List ℕ) where
  pub gathering_none : (out : List ℕ) → length out ≡ 128 → Gathering row out 0
  gathering_none out s = record { most = omega arith; size = s; bytes = λ i l. absurd (omega arith) }

  pub gathering_more : {out : List ℕ} {j : ℕ} → j < 128 → Gathering row out j → (byte : ℕ) → byte ≡ at (to_cable row) j → Gathering row (set out j byte) (j + 1)
  gathering_more {out} {j} l g byte e = record {
    most = omega arith;
    size = length-set out j byte ∙ g.size;
    bytes = λ i m. by_cases (ℕ_discrete i j)
        (λ d. rw d (get_or-set_same out j byte 0 (omega (arith, g.size)) ∙ e))
        (λ d. get_or-set_other out j i byte 0 d ∙ g.bytes i (omega arith));
  }

  pub gathering_all : {out : List ℕ} {j : ℕ} → 128 ≤ j → Gathering row out j → out ≡ to_cable row
  gathering_all {out} l g = ext_get_or 0 out (to_cable row) (g.size ∙ sym (turned_size hook_at row)) (λ i m. g.bytes i (omega (arith, g.size)))
