-- `printing::serve` meets its contract: the store is opened, and so the stream is served. Assumes nothing.
use mathlib.Core.Path.{◌≡◌, refl, ◌∙◌}
use Rattle.std.specs.Prelude.{Result, Ok, Err, IsOk}
use Rattle.answers.specs.declared.Refusal.{Refusal}
use Rattle.answers.specs.Results.{answer_of}
use Rattle.answers.proofs.Laws.{number_some}
use Rattle.trees.specs.declared.Tree.{Tree}
use Rattle.lines.proofs.PrintLaws.{opens, program_serves}
use Rattle.printing.proofs.serve.Goals as goal

is_opened : (r : Result Tree Refusal) → answer_of r ≡ 0 → IsOk r
is_opened (Ok tree) e = refl
is_opened (Err x) e = absurd (number_some x e)

pub unwrap-tree-requires : goal.unwrap-tree-requires
unwrap-tree-requires c = is_opened _ (c.open.ensures.answers ∙ rw (opens _ _ _ refl refl refl))

pub returns-in-Ok : goal.returns-in-Ok
returns-in-Ok c = program_serves refl refl refl (rw c.unwrap-tree.ensures at c.open.ensures) c.requires.0 c.requires.1 c.in-Ok.ensures.ends

pub returns-in-Err : goal.returns-in-Err
returns-in-Err c = program_serves refl refl refl (rw c.unwrap-tree.ensures at c.open.ensures) c.requires.0 c.requires.1 c.in-Err.ensures.ends
