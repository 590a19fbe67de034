-- Lent bytes that are laid into one behind the other. Definitions only. Assumes nothing.
use Rattle.std.specs.Prelude.{◌≡◌, List, ℕ, ◌+◌, ◌≤◌, length}
use Rattle.laying.specs.declared.Writer.{Writer}
use Rattle.laying.specs.Laid.{Lays}

-- there is room for n more
abbrev pub HasRoom : Writer → ℕ → Type 0
HasRoom w n = w.end + n ≤ length w.bytes.now

-- bytes were laid behind what there was, in the same memory
pub record Adds (before : Writer) (bytes : List ℕ) (after : Writer) : Type 0 where
  pub lays : Lays before.bytes.now before.end bytes after.bytes.now after.end
  pub lent : after.bytes.ghost_name ≡ before.bytes.ghost_name
