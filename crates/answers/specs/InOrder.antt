-- Steps in order, ending before the first that is refused: how many were done, the refusal that ended them, and what is left. Definitions only. Assumes nothing.
use Rattle.std.specs.Prelude.{List, [], ◌∷◌, ℕ, suc}
use Rattle.std.proofs.Math.Option.{Option, none, some}
use Rattle.answers.specs.declared.Refusal.{Refusal}
use Rattle.answers.specs.Answers.{Answer, handed}
use Rattle.answers.specs.Tests.{unless, verdict_number}

pub record Ended (S : Type 0) : Type 0 where
  pub done : ℕ
  pub refusal : Option Refusal
  pub left : S

-- ended before anything is done
abbrev pub stopped : {S : Type 0} → S → Refusal → Ended S
stopped s r = record { done = 0; refusal = some r; left = s }

-- one step more
abbrev pub one_more : {S : Type 0} → Ended S → Ended S
one_more e = record { done = suc e.done; refusal = e.refusal; left = e.left }

module _ {S A : Type 0} (verdict : S → A → Option Refusal) (next : S → A → S) where
  unfoldable pub in_order : S → List A → Ended S
  in_order s [] = record { done = 0; refusal = none; left = s }
  in_order s (a ∷ rest) = unless (verdict s a) (stopped s) (one_more (in_order (next s a) rest))

-- what the caller is handed: the refusal's number, and how many were done
abbrev pub ended_with : {S : Type 0} → Ended S → Answer
ended_with e = handed (verdict_number e.refusal) [] (e.done ∷ [])
