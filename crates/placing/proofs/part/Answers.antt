-- `placing::part` meets its contract. Assumes nothing.
use Prim.Native.Nat.{◌+◌, ◌-◌}
use mathlib.Core.Path.{◌≡◌, refl}
use native.Mathlib.Omega.{arith}
use Rattle.measures.specs.Measures.{bytes_at}
use Rattle.placing.proofs.part.Goals as goal

pub returns : goal.returns
unfolding bytes_at
returns c = let a = c.args in
    let f = c.offset-start in
    let e : (f.result + a.width) - f.result ≡ a.width = omega arith in
    (rw (e, f.ensures), record { memory = refl; offset = omega (arith, f.ensures) })
