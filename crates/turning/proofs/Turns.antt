-- A loop that goes from reader to reader, with four lists that each turn writes, for any type of run and any facts, as functions of the logic:
--     while going(run) { step = here(stream, at, width); (run, lists) = serve(run, step, stream, at, lists); at = step.next; }
-- Where a turn keeps what it has to and comes nearer to the end, the loop ends, with what it is to reach. Assumes nothing.
use Rattle.std.proofs.Common.{◌≡◌, refl, ◌∙◌, ℕ, zero, suc, ◌+◌, ◌<◌, ◌≤◌, Bool, true, false, List, length, arith}
use Rattle.commands.specs.declared.Step.{Step}

-- the four lists
pub record Lists : Type 0 where
  pub node : List ℕ
  pub row : List ℕ
  pub places : List ℕ
  pub out : List ℕ

pub record Sized (L L' : Lists) : Type 0 where
  pub node : length L'.node ≡ length L.node
  pub row : length L'.row ≡ length L.row
  pub places : length L'.places ≡ length L.places
  pub out : length L'.out ≡ length L.out

sized_same : {L : Lists} → Sized L L
sized_same = record { node = refl; row = refl; places = refl; out = refl }

sized_then : {L M N : Lists} → Sized L M → Sized M N → Sized L N
sized_then a b = record { node = b.node ∙ a.node; row = b.row ∙ a.row; places = b.places ∙ a.places; out = b.out ∙ a.out }

cases_of : {A : Type 0} (b : Bool) → (b ≡ true → A) → (b ≡ false → A) → A
cases_of true f g = f refl
cases_of false f g = g refl

module _ (Run : Type 0) (going : Run → Bool) where
  -- the facts of a loop: of a stream, a width, the first run and the lists; of a turn, its position, its run and its lists
  pub record Facts : Type 1 where
    pub Pre : List ℕ → ℕ → Run → Lists → Type 0
    pub Post : List ℕ → ℕ → Run → Lists → Run → Lists → Type 0
    pub req_here : ℕ → Type 0
    pub Here : List ℕ → ℕ → ℕ → Step → Type 0
    pub Req : Run → Step → List ℕ → ℕ → Lists → Type 0
    pub Ens : Run → Step → List ℕ → ℕ → Lists → Run → Lists → Type 0
    pub Inv : List ℕ → ℕ → Run → Lists → ℕ → Run → Lists → Type 0
    pub μ : List ℕ → ℕ → Run → Lists → ℕ
    pub start : (s : List ℕ) (w : ℕ) (r₀ : Run) (L₀ : Lists) → Pre s w r₀ L₀ → Inv s w r₀ L₀ 0 r₀ L₀
    pub wide : (s : List ℕ) (w : ℕ) (r₀ : Run) (L₀ : Lists) (p : ℕ) (r : Run) (L : Lists) → Inv s w r₀ L₀ p r L → req_here w
    pub asks : (s : List ℕ) (w : ℕ) (r₀ : Run) (L₀ : Lists) (p : ℕ) (r : Run) (L : Lists) (st : Step) → Inv s w r₀ L₀ p r L → going r ≡ true → Here s p w st → Req r st s p L
    pub next : (s : List ℕ) (w : ℕ) (r₀ : Run) (L₀ : Lists) (p : ℕ) (r : Run) (L : Lists) (st : Step) (r' : Run) (L' : Lists)
        → Inv s w r₀ L₀ p r L → going r ≡ true → Here s p w st → Ens r st s p L r' L' → Sized L L' → Inv s w r₀ L₀ st.next r' L' × (μ s st.next r' L' < μ s p r L)
    pub over : (s : List ℕ) (w : ℕ) (r₀ : Run) (L₀ : Lists) (p : ℕ) (r : Run) (L : Lists) → Inv s w r₀ L₀ p r L → going r ≡ false → Post s w r₀ L₀ r L

  module _ (here : List ℕ → ℕ → ℕ → Step) (serve : Run → Step → List ℕ → ℕ → Lists → Run × Lists) where
    -- the loop, turn by turn: from a position, a run and lists to the run and the lists at its end
    pub data Loops (s : List ℕ) (w : ℕ) : ℕ → Run → Lists → Run → Lists → Type 0 where
      ended : {p : ℕ} {r : Run} {L : Lists} → going r ≡ false → Loops s w p r L r L
      turned : {p : ℕ} {r : Run} {L : Lists} {r' : Run} {L' : Lists} → going r ≡ true
          → Loops s w (here s p w).next (serve r (here s p w) s p L).0 (serve r (here s p w) s p L).1 r' L' → Loops s w p r L r' L'

    -- what the two functions of a turn promise
    pub record Meets (F : Facts) : Type 0 where
      pub tells : (s : List ℕ) (p w : ℕ) → F.req_here w → F.Here s p w (here s p w)
      pub serves : (r : Run) (st : Step) (s : List ℕ) (p : ℕ) (L : Lists) → F.Req r st s p L
          → F.Ens r st s p L (serve r st s p L).0 (serve r st s p L).1 × Sized L (serve r st s p L).1

    -- from a turn at which the facts hold, the loop ends with what it is to reach
    pub loop_ends : (F : Facts) → Meets F → (s : List ℕ) (w : ℕ) (r₀ : Run) (L₀ : Lists) (n p : ℕ) (r : Run) (L : Lists) → F.μ s p r L + 1 ≤ n → F.Inv s w r₀ L₀ p r L
        → (r' : Run) × (L' : Lists) × Loops s w p r L r' L' × Sized L L' × F.Post s w r₀ L₀ r' L'
    loop_ends F m s w r₀ L₀ zero p r L l i = absurd (omega arith)
    loop_ends F m s w r₀ L₀ (suc n) p r L l i = cases_of (going r)
        (λ e.
        let h = m.tells s p w (F.wide s w r₀ L₀ p r L i) in
        let k = m.serves r (here s p w) s p L (F.asks s w r₀ L₀ p r L (here s p w) i e h) in
        let j = F.next s w r₀ L₀ p r L (here s p w) _ _ i e h k.0 k.1 in
        let z = loop_ends F m s w r₀ L₀ n (here s p w).next _ _ (omega (arith, j.1, l)) j.0 in
        (z.0, z.1, turned e z.2, sized_then k.1 z.3, z.4))
        (λ e. (r, L, ended e, sized_same, F.over s w r₀ L₀ p r L i e))
