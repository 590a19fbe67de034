-- Reading as the only solution of its equations: a change of tree or table is followed by showing that the new readings solve the new equations.
-- Then who lives and reads what, by tag. Assumes nothing.
use Rattle.std.specs.Prelude.{◌≡◌, refl, ◌≢◌, true, false, List, ℕ, ◌<◌, length, set}
use Rattle.std.proofs.Common.{sym, ◌∙◌, ap, arith, get_or-set_same, get_or-set_other}
use Rattle.std.proofs.Math.Logic.{by_cases}
use Rattle.std.proofs.lemmas.Bool.{false≢true}
use Rattle.std.proofs.Math.Option.{Option, none, some}
use Rattle.std.proofs.Math.Decide.{ℕ_discrete}
use Rattle.basics.specs.Decide.{at}
use Rattle.basics.proofs.CountLaws.{first_only, first_nothing}
use Rattle.trees.specs.declared.Tree.{Tree}
use Rattle.trees.specs.Trees.{Table, InUse, Alive, up, Reaches, is_version, version}
use Rattle.records.specs.Records.{Records, table, is_found, lives, tag_place}
use Rattle.trees.specs.Reading.{entry, place_or, place}
use Rattle.trees.specs.Rules.{States, Linked, Tagged}
use Rattle.records.specs.Sound.{Sound}
use Rattle.tree.specs.Going.{reaches_ind, reaches_root}
use Rattle.tree.specs.Nodes.{version_yes, version_no, version_of, version_alive}
use Rattle.reading.specs.Reads.{place_root, place_own, place_up}

-- values for every node in use and row: the row itself at node 0, else the own entry's place, else the parent's value
pub record Solves (t : Tree) (e : Table) (val : ℕ → ℕ → ℕ) : Type 0 where
  pub root : (r : ℕ) → val 0 r ≡ r
  pub step : (n r : ℕ) → n ≢ 0 → InUse t n → val n r ≡ place_or e.rows (entry e n r) (val (up t n) r)

module _ (t : Tree) (l : Linked t) (e : Table) where
  pub place_solves : Solves t e (place t e)
  place_solves = record { root = place_root t l e; step = λ n r z u. go n r z u (entry e n r) refl }
    where
      go : (n r : ℕ) → n ≢ 0 → InUse t n → (o : Option ℕ) → entry e n r ≡ o → place t e n r ≡ place_or e.rows (entry e n r) (place t e (up t n) r)
      go n r z u (some i) h = place_own t l e n r i z h ∙ rw h
      go n r z u none h = place_up t l e n r z u h ∙ rw h

  -- the reading is the only solution
  pub place_only : (val : ℕ → ℕ → ℕ) → Solves t e val → (n r : ℕ) → InUse t n → place t e n r ≡ val n r
  place_only val s n r u = reaches_ind (up t) (λ k. InUse t k → place t e k r ≡ val k r)
      (λ v. place_root t l e r ∙ sym (s.root r))
      (λ k z h v. place_solves.step k r z v ∙ ap (place_or e.rows (entry e k r)) (h (l.parent k z v)) ∙ sym (s.step k r z v))
      n (reach n u) u
    where
      reach : (n : ℕ) → InUse t n → Reaches (up t) n
      reach n u = by_cases (ℕ_discrete n 0) (λ z. rw z (reaches_root (up t))) (λ z. l.reaches n z u)

-- A list with one number changed

module _ (xs : List ℕ) (i v : ℕ) (l : i < length xs) where
  pub at_same : at (set xs i v) i ≡ v
  at_same = get_or-set_same xs i v 0 l

  pub at_other : (k : ℕ) → k ≢ i → at (set xs i v) k ≡ at xs k
  at_other k h = get_or-set_other xs i k v 0 h

-- Living versions

-- of sound records a tag names at most one living node
pub one_version : (t : Tree) → States t → Tagged t → (n m : ℕ) → Alive t n → Alive t m → at t.tag n ≡ at t.tag m → n ≡ m
one_version t s g n m a b e = by_cases (ℕ_discrete n 0)
    (λ x. by_cases (ℕ_discrete m 0) (λ y. x ∙ sym y) (λ y. absurd (omega (arith, g.above m (y, b), ap (at t.tag) x, s.root.1))))
    (λ x. by_cases (ℕ_discrete m 0) (λ y. absurd (omega (arith, g.above n (x, a), ap (at t.tag) y, s.root.1))) (λ y. g.different n m (x, a) (y, b) e))

-- so the living node with a tag is the version
pub version_node : (t : Tree) → States t → Tagged t → (n u : ℕ) → Alive t n → at t.tag n ≡ u → version t u ≡ some n
unfolding version
version_node t s g n u a e = first_only (is_version t u) 128 n a.0 (version_yes t u n a.1 e)
    (λ j l h. let w = version_of t u j h in one_version t s g j n (l, w.0) a (w.1 ∙ sym e))

pub version_nobody : (t : Tree) (u : ℕ) → ((n : ℕ) → Alive t n → at t.tag n ≢ u) → version t u ≡ none
unfolding version
version_nobody t u h = first_nothing (is_version t u) 128 (λ k l. version_no t u k (λ a e. h k (l, a) e))

-- the node of a living tag, and what the version reads
pub lives_node : (z : Records) (u : ℕ) → lives z u ≡ true → (n : ℕ) × (version z.tree u ≡ some n) × Alive z.tree n × (at z.tree.tag n ≡ u)
unfolding lives
lives_node z u e = go (version z.tree u) refl e
  where
    go : (o : Option ℕ) → version z.tree u ≡ o → is_found o ≡ true → (n : ℕ) × (version z.tree u ≡ some n) × Alive z.tree n × (at z.tree.tag n ≡ u)
    go none h x = absurd (false≢true x)
    go (some n) h x = let (a, g) = version_alive z.tree u n h in (n, h, a, g)

pub version_lives : (z : Records) (u n : ℕ) → version z.tree u ≡ some n → lives z u ≡ true
unfolding lives
version_lives z u n h = rw h

pub nobody_lives : (z : Records) (u : ℕ) → version z.tree u ≡ none → lives z u ≡ false
unfolding lives
nobody_lives z u h = rw h

pub tag_place_lem : (z : Records) (u n r : ℕ) → version z.tree u ≡ some n → tag_place z u r ≡ place z.tree (table z) n r
unfolding tag_place
tag_place_lem z u n r h = rw h

-- the origin is alive, and reads its own places
pub origin_version : (z : Records) → Sound z → version z.tree 0 ≡ some 0
origin_version z s = version_node z.tree s.states s.tagged 0 0 (omega arith, s.states.root.0) s.states.root.1
