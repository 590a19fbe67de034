-- A ghost with one child taken out, its entries made the child's: the records are sound, and the other nodes read as before. Assumes nothing.
use Rattle.std.specs.Prelude.{◌≡◌, ◌≢◌, List, ℕ, ◌<◌, length, set}
use Rattle.std.proofs.Common.{sym, ◌∙◌, ap, arith, length-set}
use Rattle.std.proofs.Math.Logic.{by_cases}
use Rattle.std.proofs.Math.Decide.{ℕ_discrete}
use Rattle.basics.specs.Decide.{at}
use Rattle.records.specs.Records.{Records, records_of, table}
use Rattle.trees.specs.Trees.{table_of, InUse, Ghost, up, Child, version}
use Rattle.trees.specs.Reading.{Owns, place}
use Rattle.trees.specs.Rules.{Excepting}
use Rattle.records.specs.Sound.{Sound}
use Rattle.edits.specs.Edits.{Whole, hung}
use Rattle.edits.proofs.Solve.{Solves, place_solves, at_same, at_other}
use Rattle.removal.specs.Removal.{spliced, Relabelled, Nearly}
use Rattle.removal.proofs.NearlySound.{nearly_sound}
use Rattle.removal.proofs.Below.{ghost_used, ghost_off, ghost_parent, bare_child}
use Rattle.removal.proofs.PruneTree.{Drops, Forked, used_back, used_kept, used_other, ghost_back, child_kept, drop_version}
use Rattle.removal.proofs.PruneReads.{drop_place, drop_nearly}
use Rattle.removal.proofs.SpliceEntries.{node_moved, node_kept, renamed_once, entry_kept, entry_moved}

module _ (z : Records) (wh : Whole z.tree) (x w : ℕ) (s : Nearly z x) (g : Ghost z.tree x) (c : Child z.tree x w) (only : (d : ℕ) → Child z.tree x d → d ≡ w) (node' : List ℕ) (l : Relabelled z.node x w node') where
  off : x ≢ 0
  off = ghost_off z.tree s.states x g

  w_other : w ≢ x
  w_other h = ghost_parent z.tree s.states x g s.linked (ap (up z.tree) (sym h) ∙ c.2)

  -- The tree

  hung_long : length (hung z.tree w (up z.tree x)).parent ≡ 128
  hung_long = length-set z.tree.parent w (up z.tree x) ∙ wh.parent

  -- x is dropped, and its one child hangs under its parent
  drops : Drops z.tree (spliced z.tree x w) x
  drops = record {
    ghost = g;
    state = at_same z.tree.state x 0 (omega (arith, g.0, wh.state));
    tag = at_same z.tree.tag x 0 (omega (arith, g.0, wh.tag));
    parent = at_same (set z.tree.parent w (up z.tree x)) x 0 (omega (arith, g.0, hung_long));
    states = λ n h. at_other z.tree.state x 0 (omega (arith, g.0, wh.state)) n h;
    tags = λ n h. at_other z.tree.tag x 0 (omega (arith, g.0, wh.tag)) n h;
    kept = λ n h k. beside n h ∙ at_other z.tree.parent w (up z.tree x) (omega (arith, c.1.0, wh.parent)) n (λ y. k (rw y c));
    over = λ n k. rw (only n k) (beside w w_other ∙ at_same z.tree.parent w (up z.tree x) (omega (arith, c.1.0, wh.parent)));
  }
    where
      beside : (n : ℕ) → n ≢ x → up (spliced z.tree x w) n ≡ up (hung z.tree w (up z.tree x)) n
      beside n h = at_other (set z.tree.parent w (up z.tree x)) x 0 (omega (arith, g.0, hung_long)) n h

  -- a ghost whose child was x has w in its place
  forked : (n : ℕ) → n ≢ x → Ghost (spliced z.tree x w) n → Forked (spliced z.tree x w) n
  forked n h k =
      let (a, b, p, i, j) = s.ghost n h (ghost_back drops n k) in
      by_cases (ℕ_discrete a x)
      (λ y. (w, b, far b j, moved a y i, child_kept drops n b h (λ q. p (y ∙ sym q)) j))
      (λ y. by_cases (ℕ_discrete b x)
      (λ q. (a, w, λ f. far a i (sym f), child_kept drops n a h y i, moved b q j))
      (λ q. (a, b, p, child_kept drops n a h y i, child_kept drops n b h q j)))
    where
      far : (d : ℕ) → Child z.tree n d → w ≢ d
      far d i y = h (sym i.2 ∙ ap (up z.tree) (sym y) ∙ c.2)

      moved : (d : ℕ) → d ≡ x → Child z.tree n d → Child (spliced z.tree x w) n w
      moved d y i = (c.0, used_kept drops w w_other c.1, drops.over w c ∙ ap (up z.tree) (sym y) ∙ i.2)

  -- The table

  -- no row is an own row of both: x's has a reader, below a child without it, and w is the only child
  apart : (r i j : ℕ) → Owns (table z) x r i → Owns (table z) w r j → ⊥
  apart r i j a b = let (d, k, bare) = bare_child z x s g r i a in bare j (rw (only d k) b)

  excepting' : Excepting (spliced z.tree x w) (table_of z.size.rows node' z.row)
  excepting' = record {
    free = λ i h f. let m = inside i h in by_cases (ℕ_discrete (at z.node i) x)
        (λ y. absurd (c.0 (sym (node_moved (table z) x w node' l i m y) ∙ f)))
        (λ y. s.excepting.free i m (sym (node_kept (table z) x w node' l i m y) ∙ f));
    named = λ i h f. let m = inside i h in by_cases (ℕ_discrete (at z.node i) x)
        (λ y. rw (node_moved (table z) x w node' l i m y) (used_kept drops w w_other c.1, (s.excepting.named i m (λ q. off (sym y ∙ q))).1))
        (λ y.
        let (u, r) = s.excepting.named i m (λ q. f (node_kept (table z) x w node' l i m y ∙ q)) in
        rw (node_kept (table z) x w node' l i m y) (used_kept drops (at z.node i) y u, r));
    once = renamed_once (table z) x w node' l off s.excepting.once apart;
  }
    where
      inside : (i : ℕ) → i < length node' → i < length z.node
      inside i h = omega (arith, l.size)

  -- What is read

  -- w finds its own row, or else x's, or else goes on to x's parent
  solves : Solves (spliced z.tree x w) (table_of z.size.rows node' z.row) (place z.tree (table z))
  solves = let v = place_solves z.tree s.linked (table z) in record {
    root = v.root;
    step = λ n r f u. by_cases (ℕ_discrete n w)
        (λ y. rw y (v.step w r c.0 c.1
        ∙ rw (c.2, drops.over w c, v.step x r off (ghost_used z.tree s.states x g))
        (sym (entry_moved (table z) x w node' l off s.excepting.once apart r (place z.tree (table z) (up z.tree x) r) c.0 w_other))))
        (λ y.
        let h = used_other drops n u in
        v.step n r f (used_back drops n u)
        ∙ rw (entry_kept (table z) x w node' l off s.excepting.once apart n r f h y, drops.kept n h (λ k. y (only n k))));
  }

  pub spliced_sound : Sound (records_of z.size (spliced z.tree x w) node' z.row)
  spliced_sound = nearly_sound (records_of z.size (spliced z.tree x w) node' z.row) x
      (drop_nearly z x s (spliced z.tree x w) drops node' solves excepting' old x
      (record { within = s.measured.within; nodes = l.size ∙ s.measured.nodes; rows = s.measured.rows })
      (λ d e i j. only d i ∙ sym (only e j))
      forked)
      (λ k. absurd (omega (arith, drops.state, k.1)))
    where
      old : (i : ℕ) → i < length node' → at node' i ≢ 0 → (i < length z.node) × (at z.node i ≢ 0)
      old i h f =
          let m : i < length z.node = omega (arith, l.size) in
          (m, λ y. f (node_kept (table z) x w node' l i m (λ q. off (sym q ∙ y)) ∙ y))

  pub spliced_place : (n r : ℕ) → InUse z.tree n → n ≢ x → place (spliced z.tree x w) (table_of z.size.rows node' z.row) n r ≡ place z.tree (table z) n r
  spliced_place n r u h = drop_place z x s (spliced z.tree x w) drops node' solves n r u h

  pub spliced_whole : Whole (spliced z.tree x w)
  spliced_whole = record {
    state = length-set z.tree.state x 0 ∙ wh.state;
    tag = length-set z.tree.tag x 0 ∙ wh.tag;
    parent = length-set (set z.tree.parent w (up z.tree x)) x 0 ∙ hung_long;
  }

  pub spliced_version : (u : ℕ) → version (spliced z.tree x w) u ≡ version z.tree u
  spliced_version u = drop_version drops u
