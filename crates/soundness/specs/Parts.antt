-- The seven rules in the three parts that are checked: the measures, the tree, the table. Assumes nothing.
use Rattle.std.specs.Prelude.{◌+◌, ◌≤◌, length}
use Rattle.std.proofs.Common.{arith}
use Rattle.records.specs.Records.{Records, table}
use Rattle.records.specs.Sound.{Measured, Sound}
use Rattle.tree.specs.Rules.{TreeSound}
use Rattle.table.specs.Rules.{TableSound}

module _ (z : Records) where
  pub sound_of : Measured z → TreeSound z.tree → TableSound z.tree (table z) → Sound z
  sound_of m t e = record {
    measured = m;
    states = t.states;
    linked = t.linked;
    tagged = t.tagged;
    branching = t.branching;
    excepting = e.excepting;
    all_read = e.all_read;
  }

  pub tree_of_lem : Sound z → TreeSound z.tree
  tree_of_lem s = record { states = s.states; linked = s.linked; tagged = s.tagged; branching = s.branching }

  pub table_of : Sound z → TableSound z.tree (table z)
  table_of s = record { excepting = s.excepting; all_read = s.all_read }

-- there are at most 4,096 places, those of the origin and those of the table
pub few_places : (z : Records) → Sound z → z.size.rows + length z.node ≤ 4096
few_places z s = let m = s.measured in omega (arith, m.nodes, m.within.places.0, m.within.places.1)
