use Rattle.std.proofs.Common.{◌≡◌, ℕ, ◌+◌, List, ◌++◌, length, take, drop, ap, ◌∙◌, zero-add}
use lib.Seq.{take-append_seam}
use Rattle.laying.specs.Laid.{Lays, laid}
use Rattle.shelf.proofs.print_out.Goals as goal

-- what was laid at the front is the front
laid_front : (before bytes after : List ℕ) (to : ℕ) → Lays before 0 bytes after to → take to after ≡ bytes
unfolding laid
laid_front before bytes after to w =
    let ends : to ≡ length bytes = w.ends ∙ zero-add (length bytes) in
    let whole : after ≡ bytes ++ drop (0 + length bytes) before = w.whole in
    ap (λ n. take n after) ends ∙ ap (take (length bytes)) whole ∙ take-append_seam bytes (drop (0 + length bytes) before)

pub returns : goal.returns
returns g c =
    rw (← laid_front c.args.out.now _ c.print-end.new.out c.print-end.result c.print-end.ensures) c.write_all.ensures.bytes
