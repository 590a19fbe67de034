use Rattle.std.proofs.Common.{◌≡◌, ℕ, ◌≤◌, ◌<◌, List, ◌++◌, length, take, ap, sym, subst, ◌∙◌, arith, refl, None, Some, IfSome, append-nil, length-append, inl, inr, length-take-le, rules}
use Rattle.std.specs.Prelude.{Option}
use Rattle.std.proofs.lemmas.Result.{on_ok_weaker}
use Rattle.std.proofs.lemmas.Bool.{lt-ltb, cases_lt}
use Rattle.std.specs.Io.KnownBytes.{Appends, Consumes, IsAtEnd}
use Rattle.lines.specs.Printed.{printed}
use Rattle.shelf.proofs.run.Goals as goal

-- over 4,096 bytes, what comes behind them changes nothing
printed_front : (front rest : List ℕ) → 4096 < length front → printed (front ++ rest) ≡ printed front
unfolding printed
printed_front front rest l =
    let more : 4096 < length (front ++ rest) = omega (arith, length-append front rest) in
    rw (lt-ltb 4096 (length (front ++ rest)) more, lt-ltb 4096 (length front) l) refl

-- what is printed for the bytes that were read is what is printed for all
printed_read : (front rest : List ℕ) → (length front ≤ 4096 → IsAtEnd (Some rest)) → printed (front ++ rest) ≡ printed front
printed_read front rest end =
    elim (cases_lt 4096 (length front)) [ inl l ↦ printed_front front rest l | inr h ↦ ap (λ s. printed (front ++ s)) (end h) ∙ ap printed (append-nil front) ]

answered : (a b old new : Option (List ℕ)) (front : List ℕ) → Consumes a b front → (length front ≤ 4096 → IsAtEnd b) → Appends old new (printed front)
    → IfSome a (λ stream. Appends old new (printed stream))
answered None b old new front p end w = tt
answered (Some x) None old new front p end w = absurd p
answered (Some x) (Some y) old new front p end w = subst (Appends old new) (sym (ap printed p ∙ printed_read front y end)) w

pub returns : goal.returns
returns g c =
    let n = c.read_full-read.new.count in
    let read : length (take n c.read_full-read.new.input) ≡ n = length-take-le n c.read_full-read.new.input c.read_full-read.ensures.within in
    let room : length c.read_full-read.new.input ≡ 4097 = search rules in
    on_ok_weaker c.read_full-read.result
    (λ e. answered _ _ _ _ (take n c.read_full-read.new.input) c.read_full-read.ensures.bytes (λ h. e (omega arith)) c.in_ok-print_out.ensures)
    c.read_full-read.ensures.end
