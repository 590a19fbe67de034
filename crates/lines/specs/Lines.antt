-- The lines of a stream: one for each call, with the reference model's answer, and one where the stream ends badly. Definitions only. Assumes nothing.
use Rattle.std.specs.Prelude.{List, [], ◌∷◌, ◌++◌, ℕ, suc, ◌+◌, length}
use Rattle.std.proofs.Math.Option.{Option, none, some}
use Rattle.measures.specs.declared.Size.{Size}
use Rattle.answers.specs.declared.Refusal.{Refusal}
use Rattle.answers.specs.Answers.{Answer, refused}
use Rattle.model.specs.Model.{Model, answers}
use Rattle.text.specs.Text.{answer_line}
use Rattle.commands.specs.Format.{refusal_of, calls_from, end_from}

-- the lines of a list of answers, numbered from k on
unfoldable pub numbered : ℕ → List Answer → List ℕ
numbered k [] = []
numbered k (a ∷ rest) = answer_line k a ++ numbered (suc k) rest

-- line k, where the stream ends badly: that of its refusal; none where it is over
unfoldable pub end_line : ℕ → Option Refusal → List ℕ
end_line k none = []
end_line k (some r) = answer_line k (refused r)

module _ (z : Size) (s : List ℕ) where
  -- the lines from p on, where line k is the next, and the model that is left
  unfoldable pub text_from : ℕ → ℕ → Model → ℕ → List ℕ
  text_from most k m p =
      numbered k (answers z m (calls_from z.width s most p)) ++ end_line (k + length (calls_from z.width s most p)) (refusal_of (end_from z.width s most p))
