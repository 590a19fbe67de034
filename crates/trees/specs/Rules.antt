-- The rules of SPEC 4.2 to 4.7, in their order, each with a name: of the tree, and of the table over it. Rule 1 is in records/specs/Sound.antt, with the seven
-- together. Definitions only. Assumes nothing.
use Rattle.std.specs.Prelude.{◌≡◌, ◌≢◌, ℕ, ◌+◌, ◌≤◌, ◌<◌, length}
use Rattle.basics.specs.Decide.{at}
use Rattle.trees.specs.declared.Tree.{Tree}
use Rattle.trees.specs.Trees.{Table, InUse, Alive, Ghost, Snapshot, up, Child, Reaches, snapshots}
use Rattle.trees.specs.Reading.{Owns, Reads}

-- 2. No node has a state above 2. Node 0 lives and is otherwise zero, as empty nodes are. Ghosts are untagged.
pub record States (t : Tree) : Type 0 where
  pub kinds : (n : ℕ) → n < 128 → at t.state n ≤ 2
  pub root : (at t.state 0 ≡ 1) × (at t.tag 0 ≡ 0) × (up t 0 ≡ 0)
  pub empty : (n : ℕ) → n < 128 → at t.state n ≡ 0 → (at t.tag n ≡ 0) × (up t n ≡ 0)
  pub ghost : (n : ℕ) → Ghost t n → at t.tag n ≡ 0

-- 3. Whatever is in use hangs on something in use, and the way up ends at node 0.
pub record Linked (t : Tree) : Type 0 where
  pub parent : (n : ℕ) → n ≢ 0 → InUse t n → InUse t (up t n)
  pub reaches : (n : ℕ) → n ≢ 0 → InUse t n → Reaches (up t) n

-- 4. No living snapshot has tag 0, no two have one tag, and there are 64 or fewer.
pub record Tagged (t : Tree) : Type 0 where
  pub above : (n : ℕ) → Snapshot t n → 0 < at t.tag n
  pub different : (n m : ℕ) → Snapshot t n → Snapshot t m → at t.tag n ≡ at t.tag m → n ≡ m
  pub most : snapshots t ≤ 64

-- 5. One child at most under node 0; two or more under a ghost.
pub record Branching (t : Tree) : Type 0 where
  pub root : (c d : ℕ) → Child t 0 c → Child t 0 d → c ≡ d
  pub ghost : (n : ℕ) → Ghost t n → (c : ℕ) × (d : ℕ) × (c ≢ d) × Child t n c × Child t n d

-- 6. Free entries are zero in both halves. The others have a node in use and a row of the store, and each pair stands once.
pub record Excepting (t : Tree) (e : Table) : Type 0 where
  pub free : (i : ℕ) → i < length e.node → at e.node i ≡ 0 → at e.row i ≡ 0
  pub named : (i : ℕ) → i < length e.node → at e.node i ≢ 0 → InUse t (at e.node i) × (at e.row i < e.rows)
  pub once : (i j n r : ℕ) → n ≢ 0 → Owns e n r i → Owns e n r j → i ≡ j

-- 7. No exception is without a living reader.
abbrev pub AllRead : Tree → Table → Type 0
AllRead t e = (i : ℕ) → i < length e.node → at e.node i ≢ 0 → (n : ℕ) × Alive t n × Reads t e (at e.row i) (e.rows + i) n
