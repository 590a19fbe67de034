-- Which hook each position of the cable carries, and what a table of this order is. Definitions only. Assumes nothing.
use Rattle.std.specs.Prelude.{◌≡◌, List, ℕ, ◌+◌, ◌*◌, ◌/◌, ◌%◌, ◌<◌, length}
use Rattle.basics.specs.Decide.{at}

--  position   0    1    2  ..   15   16   17  ..  1023        a head of 16 files of 64 hooks:
--  hook       0   64  128  ..  960    1   65  ..  1023        the cable takes one hook of each file in turn

-- the hook that a position carries (SPEC 14)
unfoldable pub hook_at : ℕ → ℕ
hook_at n = n % 16 * 64 + n / 16

-- the position that carries a hook
unfoldable pub position_of : ℕ → ℕ
position_of h = h % 64 * 16 + h / 64

-- h stands at position n of a table, and at no other
pub record Single (table : List ℕ) (h n : ℕ) : Type 0 where
  pub inside : n < length table
  pub there : at table n ≡ h
  pub alone : (m : ℕ) → m < length table → at table m ≡ h → m ≡ n

-- a table has the hook of every position, and every hook a single time
pub record Ordered (table : List ℕ) : Type 0 where
  pub size : length table ≡ 1024
  pub rule : (n : ℕ) → n < 1024 → at table n ≡ hook_at n
  pub once : (h : ℕ) → h < 1024 → Single table h (position_of h)
