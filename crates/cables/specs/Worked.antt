-- Worked examples, by evaluation: two positions, and rows of one hook turned both ways. Assumes nothing.
use Rattle.std.specs.Prelude.{◌≡◌, refl, List, ℕ, replicate, set}
use Rattle.hooks.specs.Order.{hook_at, position_of}
use Rattle.rowbits.specs.Bits.{bit_of, binary, row_of}
use Rattle.cables.specs.Cables.{turned, to_cable, from_cable}

-- position 1 carries hook 64, position 16 hook 1, and the last position the last hook
second : hook_at 1 ≡ 64
unfolding hook_at
second = refl

seventeenth : hook_at 16 ≡ 1
unfolding hook_at
seventeenth = refl

last : hook_at 1023 ≡ 1023
unfolding hook_at
last = refl

-- a row of zeros but for one byte
abbrev one : ℕ → ℕ → List ℕ
one i byte = set (replicate 128 0) i byte

-- hook 0 alone, hook 64 alone, hooks 1 and 1023; the position of each is the bit that is set
first_hook : to_cable (one 0 128) ≡ one 0 128
unfolding turned row_of binary bit_of hook_at
first_hook = refl

hook_64 : to_cable (one 8 128) ≡ one 0 64
unfolding turned row_of binary bit_of hook_at
hook_64 = refl

hooks_1_1023 : to_cable (set (one 0 64) 127 1) ≡ set (one 2 128) 127 1
unfolding turned row_of binary bit_of hook_at
hooks_1_1023 = refl

-- and back
position_1 : from_cable (one 0 64) ≡ one 8 128
unfolding turned row_of binary bit_of position_of
position_1 = refl

positions_16_1023 : from_cable (set (one 2 128) 127 1) ≡ set (one 0 64) 127 1
unfolding turned row_of binary bit_of position_of
positions_16_1023 = refl
