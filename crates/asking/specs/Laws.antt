-- A node without a child is read by itself alone. Assumes nothing.
use Rattle.std.specs.Prelude.{refl, ◌≢◌, List, ℕ}
use Rattle.std.proofs.Math.Logic.{by_cases}
use Rattle.std.proofs.Math.Decide.{ℕ_discrete}
use Rattle.std.proofs.Common.{arith}
use Rattle.trees.specs.declared.Tree.{Tree}
use Rattle.trees.specs.Trees.{InUse, Child, up}
use Rattle.trees.specs.Rules.{Linked}
use Rattle.table.specs.Rules.{Meets, here, above}
use Rattle.asking.specs.Asking.{MeetsAlone, Childless}

-- from a node in use other than g that meets g, the way up passes a child of g
pub meets_child : (t : Tree) (marks : List ℕ) (r g : ℕ) → Linked t → {n : ℕ} → InUse t n → n ≢ g → Meets t marks r g n → (c : ℕ) × Child t g c
meets_child t marks r g l u a (here x) = absurd (a x)
meets_child t marks r g l u a (above {n = n} x z f d) = by_cases (ℕ_discrete (up t n) g)
    (λ e. (n, (z, u, e)))
    (λ e. meets_child t marks r g l (l.parent n z u) e d)

-- a node other than 0 without a child is met by itself alone
pub childless_alone : (t : Tree) (marks : List ℕ) (r v : ℕ) → Linked t → v ≢ 0 → Childless t v → MeetsAlone t marks v v r
childless_alone t marks r v l z h = record {
  below = z;
  meets = here refl;
  alone = λ (n, (a, x, m)). let (c, k) = meets_child t marks r v l (a.0, λ y. omega (arith, a.1)) x m in h c k;
}
