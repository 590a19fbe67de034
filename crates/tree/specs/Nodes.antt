-- Laws of nodes: the tests of Records answer the questions beside them; children by their number. Assumes nothing.
use Rattle.std.specs.Prelude.{◌≡◌, refl, ◌≢◌, ◌↔◌, Bool, true, false, not, ◌&&◌, ℕ, ◌≤◌, ◌<◌}
use Rattle.std.proofs.Math.Path.{ap}
use Rattle.std.proofs.Math.Logic.{by_cases}
use Rattle.std.proofs.Math.Option.{some}
use Rattle.std.proofs.Common.{arith}
use Rattle.std.proofs.Math.Dec.{eqb}
use borrow.Author.Tests.{eq-eqb, ne_eqb, eqb-true}
use Rattle.basics.specs.Decide.{at, and_yes, both, not_yes, not_of}
use Rattle.basics.proofs.CountLaws.{first_some, first_only, count_two, count_pair, count_one}
use Rattle.trees.specs.declared.Tree.{Tree}
use Rattle.trees.specs.Trees.{Alive, Snapshot, up, Child, is_snapshot, is_used, is_child, children, is_version, version}
use Rattle.trees.specs.Rules.{States}

module _ (t : Tree) where
  pub used_yes : (n : ℕ) → at t.state n ≢ 0 → is_used t n ≡ true
  unfolding is_used
  used_yes n h = not_yes (ne_eqb _ 0 h)

  pub used_of : (n : ℕ) → is_used t n ≡ true → at t.state n ≢ 0
  unfolding is_used
  used_of n e = not_of _ 0 e

  pub used_no : (n : ℕ) → at t.state n ≡ 0 → is_used t n ≡ false
  unfolding is_used
  used_no n h = rw (eq-eqb _ 0 h)

  pub child_yes : (p c : ℕ) → Child t p c → is_child t p c ≡ true
  unfolding is_child
  child_yes p c h = and_yes (not_yes (ne_eqb c 0 h.0)) (and_yes (used_yes c h.1.1) (eq-eqb _ p h.2))

  pub child_of : (p c : ℕ) → c < 128 → is_child t p c ≡ true → Child t p c
  unfolding is_child
  child_of p c l e =
      let (a, f) = both (not (eqb c 0)) (is_used t c && eqb (up t c) p) e in
      let (b, g) = both (is_used t c) (eqb (up t c) p) f in
      (not_of c 0 a, (l, used_of c b), eqb-true _ p g)

  pub snapshot_yes : (n : ℕ) → Snapshot t n → is_snapshot t n ≡ true
  unfolding is_snapshot
  snapshot_yes n h = and_yes (not_yes (ne_eqb n 0 h.0)) (eq-eqb _ 1 h.1.1)

  pub snapshot_of : (n : ℕ) → n < 128 → is_snapshot t n ≡ true → Snapshot t n
  unfolding is_snapshot
  snapshot_of n l e =
      let (a, b) = both (not (eqb n 0)) (eqb (at t.state n) 1) e in
      (not_of n 0 a, (l, eqb-true _ 1 b))

  -- at most one child, and at least two, by their number
  pub one_child : (p : ℕ) → children t p ≤ 1 ↔ ((c d : ℕ) → Child t p c → Child t p d → c ≡ d)
  unfolding children
  one_child p = (
    λ h c d x y. by_cases (native.Mathlib.Decide.ℕ_discrete c d) (λ e. e)
        (λ e. absurd (omega (arith, count_two (is_child t p) 128 c d x.1.0 y.1.0 e (child_yes p c x) (child_yes p d y)))),
    λ h. count_one (is_child t p) 128 (λ a b l m x y. h a b (child_of p a l x) (child_of p b m y)),
  )

  pub two_children : (p : ℕ) → 2 ≤ children t p ↔ ((c : ℕ) × (d : ℕ) × (c ≢ d) × Child t p c × Child t p d)
  unfolding children
  two_children p = (
    λ h. let (a, b, l, m, d, x, y) = count_pair (is_child t p) 128 h in (a, b, d, child_of p a l x, child_of p b m y),
    λ w. count_two (is_child t p) 128 w.0 w.1 w.3.1.0 w.4.1.0 w.2 (child_yes p w.0 w.3) (child_yes p w.1 w.4),
  )

  -- the living node of a tag
  pub version_yes : (g n : ℕ) → at t.state n ≡ 1 → at t.tag n ≡ g → is_version t g n ≡ true
  unfolding is_version
  version_yes g n a e = and_yes (eq-eqb _ 1 a) (eq-eqb _ g e)

  pub version_of : (g n : ℕ) → is_version t g n ≡ true → (at t.state n ≡ 1) × (at t.tag n ≡ g)
  unfolding is_version
  version_of g n e =
      let (a, b) = both (eqb (at t.state n) 1) (eqb (at t.tag n) g) e in
      (eqb-true _ 1 a, eqb-true _ g b)

  pub version_no : (g n : ℕ) → (at t.state n ≡ 1 → at t.tag n ≡ g → ⊥) → is_version t g n ≡ false
  version_no g n h = go (is_version t g n) refl
    where
      go : (b : Bool) → is_version t g n ≡ b → is_version t g n ≡ false
      go true e = let w = version_of g n e in absurd (h w.0 w.1)
      go false e = e

  pub version_alive : (g n : ℕ) → version t g ≡ some n → Alive t n × (at t.tag n ≡ g)
  unfolding version
  version_alive g n e =
      let s = first_some (is_version t g) 128 n e in
      let w = version_of g n s.passes in
      ((s.low, w.0), w.1)

  -- of a snapshot with a tag above 0 whom no other has, the version is that snapshot
  pub tag_version : States t → (n : ℕ) → Snapshot t n → 0 < at t.tag n → ((m : ℕ) → Snapshot t m → at t.tag m ≡ at t.tag n → m ≡ n) → version t (at t.tag n) ≡ some n
  unfolding version
  tag_version s n h l u = first_only (is_version t (at t.tag n)) 128 n h.1.0 (version_yes _ n h.1.1 refl)
      (λ j k e. let w = version_of _ j e in u j ((λ x. omega (arith, w.1, ap (at t.tag) x, s.root.1)), (k, w.0)) w.1)
