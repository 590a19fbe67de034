-- A loop from its start: where its first facts hold, it ends with its last ones. Assumes nothing.
use Rattle.std.proofs.Common.{ℕ, suc, Bool, List, arith}
use Rattle.commands.specs.declared.Step.{Step}
use Rattle.turning.proofs.Turns.{Lists, Sized, Facts, Loops, Meets, loop_ends}

pub loop_meets : (Run : Type 0) (going : Run → Bool) (here : List ℕ → ℕ → ℕ → Step) (serve : Run → Step → List ℕ → ℕ → Lists → Run × Lists)
    (F : Facts Run going) → Meets Run going here serve F → (s : List ℕ) (w : ℕ) (r₀ : Run) (L₀ : Lists) → F.Pre s w r₀ L₀
    → (r : Run) × (L : Lists) × Loops Run going here serve s w 0 r₀ L₀ r L × Sized L₀ L × F.Post s w r₀ L₀ r L
loop_meets Run going here serve F m s w r₀ L₀ pre = loop_ends Run going here serve F m s w r₀ L₀ (suc (F.μ s 0 r₀ L₀)) 0 r₀ L₀ (omega arith) (F.start s w r₀ L₀ pre)
