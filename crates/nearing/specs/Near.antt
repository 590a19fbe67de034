-- For each ghost a living child, where it has one: a likely reader of its rows. Assumes nothing.
use Rattle.std.specs.Prelude.{◌≡◌, ◌≢◌, ◌⊎◌, List, ℕ, ◌+◌, ◌<◌, length, set}
use Rattle.std.proofs.Common.{sym, ◌∙◌, ap, inl, inr, ⊎_elim, arith, length-set, get_or-set_same, get_or-set_other}
use Rattle.std.proofs.Math.Logic.{by_cases}
use Rattle.std.proofs.Math.Decide.{ℕ_discrete}
use Rattle.basics.specs.Decide.{at}
use Rattle.faults.specs.Faults.{Below}
use Rattle.trees.specs.declared.Tree.{Tree}
use Rattle.trees.specs.Trees.{Alive, up}

-- c is a living child of g
abbrev pub Heir : Tree → ℕ → ℕ → Type 0
Heir t g c = (c ≢ 0) × Alive t c × (up t c ≡ g)

-- a node for each of 128: of one that is not alive a living child, or itself. Left free: which child, and what stands for the living
pub record Near (t : Tree) (near : List ℕ) : Type 0 where
  pub size : length near ≡ 128
  pub node : Below (λ g. at near g < 128) 128
  pub heir : Below (λ g. at t.state g ≢ 1 → (at near g ≡ g) ⊎ Heir t g (at near g)) 128

-- those that are not alive stand for themselves, up to node n
pub record Hidden (state near : List ℕ) (n : ℕ) : Type 0 where
  pub size : length near ≡ 128
  pub node : Below (λ g. at near g < 128) 128
  pub self : Below (λ g. at state g ≢ 1 → at near g ≡ g) n

module _ (state near : List ℕ) where
  pub hidden_first : length near ≡ 128 → ((g : ℕ) → g < 128 → at near g ≡ 0) → Hidden state near 0
  hidden_first e z = record { size = e; node = λ g l. omega (arith, z g l); self = λ g l. absurd (omega arith) }

  pub hidden_past : (n : ℕ) → at state n ≡ 1 → Hidden state near n → Hidden state near (n + 1)
  hidden_past n e h = record { size = h.size; node = h.node; self = λ g l a. by_cases (ℕ_discrete g n) (λ x. absurd (a (rw x e))) (λ x. h.self g (omega arith) a) }

  pub hidden_next : (n : ℕ) → n < 128 → Hidden state near n → Hidden state (set near n n) (n + 1)
  hidden_next n l h = record {
    size = length-set near n n ∙ h.size;
    node = λ g b. by_cases (ℕ_discrete g n) (λ x. omega (arith, ap (at (set near n n)) x ∙ new)) (λ x. omega (arith, h.node g b, get_or-set_other near n g n 0 x));
    self = λ g b a. by_cases (ℕ_discrete g n) (λ x. ap (at (set near n n)) x ∙ new ∙ sym x) (λ x. get_or-set_other near n g n 0 x ∙ h.self g (omega arith) a);
  }
    where
      new : at (set near n n) n ≡ n
      new = get_or-set_same near n n 0 (omega (arith, h.size))

module _ (t : Tree) (near : List ℕ) where
  pub near_hidden : Hidden t.state near 128 → Near t near
  near_hidden h = record { size = h.size; node = h.node; heir = λ g l a. inl (h.self g l a) }

  -- a living child stands for its parent
  pub near_next : (g c : ℕ) → g < 128 → Heir t g c → Near t near → Near t (set near g c)
  near_next g c l h n = record {
    size = length-set near g c ∙ n.size;
    node = λ k b. by_cases (ℕ_discrete k g) (λ x. omega (arith, h.1.0, ap (at (set near g c)) x ∙ new)) (λ x. omega (arith, n.node k b, other k x));
    heir = λ k b a. by_cases (ℕ_discrete k g)
        (λ x. inr (rw (x, new) h))
        (λ x. ⊎_elim (λ e. inl (other k x ∙ e)) (λ e. inr (rw (other k x) e)) (n.heir k b a));
  }
    where
      new : at (set near g c) g ≡ c
      new = get_or-set_same near g c 0 (omega (arith, n.size))

      other : (k : ℕ) → k ≢ g → at (set near g c) k ≡ at near k
      other k x = get_or-set_other near g k c 0 x
