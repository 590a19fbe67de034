-- The facts of the loop of `streaming::lines`, as those of any loop from reader to reader; and that such a loop lays the whole stream. Assumes nothing.
use Rattle.std.proofs.Common.{◌≡◌, ℕ, ◌≤◌, Bool, List}
use Rattle.commands.specs.declared.Step.{Step}
use Rattle.commands.specs.Format.{step_at}
use Rattle.progress.specs.Replying.{Progress}
use Rattle.lines.specs.Turns.{Ready, reached, Turned}
use Rattle.lines.specs.Loop.{Begins, Through, to_go}
use Rattle.lines.specs.Loop as loop
use Rattle.lines.proofs.GoingLaws.{going_start, going_ready, going_next, going_less, going_end}
use Rattle.turning.proofs.Turns.{Lists, Sized, Facts, Loops, Meets}
use Rattle.turning.proofs.Looping.{loop_meets}

abbrev going : Progress → Bool
going r = r.going

abbrev pub facts : Facts Progress going
facts = record {
  Pre = λ s w r L. Begins w r s L.out;
  Post = λ s w r₀ L₀ r L. Through r₀ L₀.node L₀.row L₀.places s L₀.out r L.node L.row L.places L.out;
  req_here = λ w. w ≤ 1024;
  Here = λ s p w st. st ≡ step_at w s p;
  Req = λ r st s p L. Ready r st s p L.out;
  Ens = λ r st s p L r' L'. Turned r L.node L.row L.places s p L.out r' L'.node L'.row L'.places L'.out st.next;
  Inv = λ s w r₀ L₀ p r L. Begins w r₀ s L₀.out × loop.Going r₀ L₀.node L₀.row L₀.places s L₀.out r L.node L.row L.places L.out (reached s r p);
  μ = λ s p r L. to_go s r p;
  start = λ s w r₀ L₀ pre. (pre, going_start r₀ L₀.node L₀.row L₀.places s L₀.out pre);
  wide = λ s w r₀ L₀ p r L i. i.0.narrow;
  asks = λ s w r₀ L₀ p r L st i g h. going_ready r₀ L₀.node L₀.row L₀.places s L₀.out g i.1 i.0 h;
  next = λ s w r₀ L₀ p r L st r' L' i g h e z. (
    (i.0, going_next r₀ L₀.node L₀.row L₀.places s L₀.out g i.1 e),
    going_less r₀ L₀.node L₀.row L₀.places s L₀.out g i.1 e,
  );
  over = λ s w r₀ L₀ p r L i o. going_end r₀ L₀.node L₀.row L₀.places s L₀.out p o i.1;
}

-- any two functions that read a command and serve it as the code's do make such a loop
pub lines_end : (here : List ℕ → ℕ → ℕ → Step) (serve : Progress → Step → List ℕ → ℕ → Lists → Progress × Lists) → Meets Progress going here serve facts
    → (s : List ℕ) (w : ℕ) (r₀ : Progress) (L₀ : Lists) → Begins w r₀ s L₀.out
    → (r : Progress) × (L : Lists) × Loops Progress going here serve s w 0 r₀ L₀ r L × Sized L₀ L × Through r₀ L₀.node L₀.row L₀.places s L₀.out r L.node L.row L.places L.out
lines_end here serve m s w r₀ L₀ b = loop_meets Progress going here serve facts m s w r₀ L₀ b
