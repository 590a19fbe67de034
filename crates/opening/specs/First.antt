-- The records of an accepted opening are sound. Assumes nothing.
use Rattle.std.specs.Prelude.{◌≡◌, refl, ◌≢◌, ℕ, zero, suc, ◌-◌, replicate, not, eqb}
use Rattle.std.proofs.Common.{sym, ◌∙◌, arith, get_or-set_other, eqb-true}
use Rattle.std.proofs.Math.Logic.{by_cases}
use Rattle.std.proofs.Math.Decide.{ℕ_discrete}
use Rattle.std.proofs.lemmas.List.{length-replicate}
use Rattle.basics.specs.Decide.{at, both, not_of}
use Rattle.basics.proofs.CountLaws.{count_one}
use Rattle.measures.specs.declared.Size.{Size}
use Rattle.measures.specs.Measures.{Within}
use Rattle.records.specs.Records.{records_of}
use Rattle.trees.specs.Trees.{is_snapshot, snapshots}
use Rattle.trees.specs.Rules.{States, Tagged}
use Rattle.records.specs.Sound.{Sound}
use Rattle.opening.specs.Opening.{first_tree}

zero_at : (n k : ℕ) → at (replicate n 0) k ≡ 0
zero_at zero k = refl
zero_at (suc n) zero = refl
zero_at (suc n) (suc k) = zero_at n k

-- no node but node 0 is in use
other_empty : (n : ℕ) → n ≢ 0 → at first_tree.state n ≡ 0
other_empty n h = get_or-set_other (replicate 128 0) 0 n 1 0 h ∙ zero_at 128 n

unused : (n : ℕ) → n ≢ 0 → at first_tree.state n ≢ 0 → ⊥
unused n h u = u (other_empty n h)

not_one : (n : ℕ) → n ≢ 0 → at first_tree.state n ≡ 1 → ⊥
not_one n h e = omega (arith, other_empty n h)

first_states : States first_tree
first_states = record {
  kinds = λ n l. by_cases (ℕ_discrete n 0) (λ e. rw e (omega arith)) (λ e. omega (arith, other_empty n e));
  root = (refl, refl, refl);
  empty = λ n l e. (zero_at 128 n, zero_at 128 n);
  ghost = λ n g. zero_at 128 n;
}

first_tagged : Tagged first_tree
unfolding snapshots is_snapshot
first_tagged = record {
  above = λ n s. absurd (not_one n s.0 s.1.1);
  different = λ n m s r e. absurd (not_one n s.0 s.1.1);
  most = omega (
    arith,
    count_one (is_snapshot first_tree) 128 (λ a b l m x y.
        let (z, e) = both (not (eqb a 0)) (eqb (at first_tree.state a) 1) x in
        absurd (not_one a (not_of a 0 z) (eqb-true _ 1 e))),
  );
}

pub first_sound : (z : Size) → Within z → (n : ℕ) → n ≡ z.places - z.rows → Sound (records_of z first_tree (replicate n 0) (replicate n 0))
first_sound z w n e = record {
  measured = record { within = w; nodes = length-replicate n 0 ∙ e; rows = length-replicate n 0 ∙ e };
  states = first_states;
  linked = record { parent = λ k h u. absurd (unused k h u.1); reaches = λ k h u. absurd (unused k h u.1) };
  tagged = first_tagged;
  branching = record {
    root = λ c d x y. absurd (unused c x.0 x.1.1);
    ghost = λ k g. by_cases (ℕ_discrete k 0) (λ h. absurd (omega (arith, rw h at g.1))) (λ h. absurd (omega (arith, g.1, other_empty k h)));
  };
  excepting = record {
    free = λ i l h. zero_at n i;
    named = λ i l h. absurd (h (zero_at n i));
    once = λ i j k r h a b. absurd (h (sym a.1 ∙ zero_at n i));
  };
  all_read = λ i l h. absurd (h (zero_at n i));
}
