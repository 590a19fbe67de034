-- A ghost without children made empty: the records stay nearly sound, now but for its parent, and the other nodes read as before. Assumes nothing.
use Rattle.std.specs.Prelude.{◌≡◌, refl, ◌≢◌, ℕ}
use Rattle.std.proofs.Common.{◌∙◌, arith, length-set}
use Rattle.basics.specs.Decide.{at}
use Rattle.records.specs.Records.{Records, table}
use Rattle.trees.specs.Trees.{InUse, Ghost, up, Child, version}
use Rattle.trees.specs.Reading.{place}
use Rattle.trees.specs.Rules.{Excepting}
use Rattle.edits.specs.Edits.{Whole, with_tree}
use Rattle.edits.proofs.Solve.{Solves, place_solves, at_same, at_other}
use Rattle.removal.specs.Removal.{emptied, Nearly}
use Rattle.removal.proofs.Below.{bare_child}
use Rattle.removal.proofs.PruneTree.{Drops, used_back, used_kept, used_other, ghost_other, ghost_back, drop_version, drop_ghost}
use Rattle.removal.proofs.PruneReads.{drop_place, drop_nearly}

module _ (z : Records) (w : Whole z.tree) (x : ℕ) (s : Nearly z x) (g : Ghost z.tree x) (leaf : (c : ℕ) → Child z.tree x c → ⊥) where
  drops : Drops z.tree (emptied z.tree x) x
  drops = record {
    ghost = g;
    state = at_same z.tree.state x 0 (omega (arith, g.0, w.state));
    tag = at_same z.tree.tag x 0 (omega (arith, g.0, w.tag));
    parent = at_same z.tree.parent x 0 (omega (arith, g.0, w.parent));
    states = λ n h. at_other z.tree.state x 0 (omega (arith, g.0, w.state)) n h;
    tags = λ n h. at_other z.tree.tag x 0 (omega (arith, g.0, w.tag)) n h;
    kept = λ n h c. at_other z.tree.parent x 0 (omega (arith, g.0, w.parent)) n h;
    over = λ n c. absurd (leaf n c);
  }

  solves : Solves (emptied z.tree x) (table z) (place z.tree (table z))
  solves = let v = place_solves z.tree s.linked (table z) in record {
    root = v.root;
    step = λ n r f u. v.step n r f (used_back drops n u) ∙ rw (drops.kept n (used_other drops n u) (leaf n));
  }

  -- no exception names x: it would have a reader below a child
  excepting' : Excepting (emptied z.tree x) (table z)
  excepting' = record {
    free = s.excepting.free;
    named = λ i l f.
        let (u, r) = s.excepting.named i l f in
        let h : at z.node i ≢ x = λ y. let (c, k, o) = bare_child z x s g (at z.row i) i (l, y, refl) in leaf c k in
        (used_kept drops (at z.node i) h u, r);
    once = s.excepting.once;
  }

  pub pruned_nearly : Nearly (with_tree z (emptied z.tree x)) (up z.tree x)
  pruned_nearly = drop_nearly z x s (emptied z.tree x) drops z.node solves excepting' (λ i l f. (l, f)) (up z.tree x)
      (record { within = s.measured.within; nodes = s.measured.nodes; rows = s.measured.rows })
      (λ c e i j. absurd (leaf c i))
      (λ n h k. drop_ghost drops n k h (s.ghost n (ghost_other drops n k) (ghost_back drops n k)))

  pub pruned_place : (n r : ℕ) → InUse z.tree n → n ≢ x → place (emptied z.tree x) (table z) n r ≡ place z.tree (table z) n r
  pruned_place n r u h = drop_place z x s (emptied z.tree x) drops z.node solves n r u h

  pub pruned_whole : Whole (emptied z.tree x)
  pruned_whole = record {
    state = length-set z.tree.state x 0 ∙ w.state;
    tag = length-set z.tree.tag x 0 ∙ w.tag;
    parent = length-set z.tree.parent x 0 ∙ w.parent;
  }

  pub pruned_version : (u : ℕ) → version (emptied z.tree x) u ≡ version z.tree u
  pruned_version u = drop_version drops u
