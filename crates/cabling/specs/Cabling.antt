-- The two turns as one, by the way. Assumes nothing.
use Rattle.std.specs.Prelude.{List, ℕ}
use Rattle.cables.specs.Cables.{to_cable, from_cable}
use Rattle.cabling.specs.declared.Way.{Way}
use Rattle.cabling.specs.declared.Way.TheVariants.{To, From}

abbrev pub turn_by : Way → List ℕ → List ℕ
turn_by To row = to_cable row
turn_by From row = from_cable row
