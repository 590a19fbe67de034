-- Rows with their bytes, from one of them on: the next is in front of the rest, and none is left behind the last. Assumes nothing.
use Rattle.std.specs.Prelude.{◌≡◌, refl, List, [], ◌∷◌, ℕ, suc, ◌+◌, ◌*◌, ◌≤◌, ◌<◌, length, take, drop}
use Rattle.std.proofs.Common.{sym, ◌∙◌, ap, zero-mul, suc-mul, arith, drop_of_length-le, drop-cons, drop-drop}
use Rattle.basics.specs.Decide.{at}
use Rattle.measures.specs.Measures.{rows_with}

-- the rows from i on, with their bytes
abbrev pub rows_from : ℕ → List ℕ → List ℕ → ℕ → List (ℕ × List ℕ)
rows_from width rows bytes i = rows_with width (drop i rows) (drop (i * width) bytes)

pub rows_all : (width : ℕ) (rows bytes : List ℕ) → rows_from width rows bytes 0 ≡ rows_with width rows bytes
rows_all width rows bytes = ap (λ (n : ℕ). rows_with width rows (drop n bytes)) (zero-mul width)

pub rows_over : (width : ℕ) (rows bytes : List ℕ) (i : ℕ) → length rows ≤ i → rows_from width rows bytes i ≡ []
unfolding rows_with
rows_over width rows bytes i l = rw (drop_of_length-le rows l)

pub rows_next : (width : ℕ) (rows bytes : List ℕ) (i : ℕ) → i < length rows → rows_from width rows bytes i ≡ (at rows i, take width (drop (i * width) bytes)) ∷ rows_from width rows bytes (i + 1)
unfolding rows_with
rows_next width rows bytes i l =
    let e : suc i ≡ i + 1 = omega arith in
    let first : ℕ × List ℕ = (at rows i, take width (drop (i * width) bytes)) in
    rw (drop-cons rows i 0 l, drop-drop width (i * width) bytes)
    (ap (λ (k : ℕ). first ∷ rows_with width (drop (suc i) rows) (drop k bytes)) (sym (suc-mul i width)) ∙ ap (λ (k : ℕ). first ∷ rows_from width rows bytes k) e)

-- as many as there are rows
pub rows_long : (width : ℕ) (rs bs : List ℕ) → length (rows_with width rs bs) ≡ length rs
unfolding rows_with
rows_long width [] bs = refl
rows_long width (r ∷ rs) bs = ap suc (rows_long width rs (drop width bs))
