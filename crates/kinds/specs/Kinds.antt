-- Rule 2 in three parts, each of them a rule for every node, as the check tests them. Assumes nothing.
use Rattle.std.specs.Prelude.{◌≡◌, ◌≢◌, List, ℕ, ◌≤◌}
use Rattle.std.proofs.Math.Logic.{by_cases}
use Rattle.std.proofs.Math.Decide.{ℕ_discrete}
use Rattle.std.proofs.Common.{arith}
use Rattle.basics.specs.Decide.{at}
use Rattle.faults.specs.Faults.{Below}
use Rattle.trees.specs.declared.Tree.{Tree}
use Rattle.trees.specs.Trees.{up}
use Rattle.trees.specs.Rules.{States}

-- the state of node n is at most a number, 2 for any; the node has a parent only if it is in use, and a tag only if it is alive
abbrev pub AtMost : List ℕ → ℕ → ℕ → Type 0
AtMost state most n = at state n ≤ most

abbrev pub Hung : List ℕ → List ℕ → ℕ → Type 0
Hung state parent n = at state n ≡ 0 → at parent n ≡ 0

abbrev pub Named : List ℕ → List ℕ → ℕ → Type 0
Named state tag n = at state n ≢ 1 → at tag n ≡ 0

module _ (t : Tree) where
  pub states_of : (at t.state 0 ≡ 1) × (at t.tag 0 ≡ 0) × (up t 0 ≡ 0) → Below (AtMost t.state 2) 128 → Below (Hung t.state t.parent) 128 → Below (Named t.state t.tag) 128 → States t
  states_of r k h g = record {
    kinds = k;
    root = r;
    empty = λ n l e. (g n l (λ x. omega arith), h n l e);
    ghost = λ n x. g n x.0 (λ y. omega (arith, x.1));
  }

  pub states_hung : States t → Below (Hung t.state t.parent) 128
  states_hung s n l e = (s.empty n l e).1

  pub states_named : States t → Below (Named t.state t.tag) 128
  states_named s n l e = by_cases (ℕ_discrete (at t.state n) 2) (λ x. s.ghost n (l, x)) (λ x. (s.empty n l (omega (arith, s.kinds n l))).0)
