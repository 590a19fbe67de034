-- A row that is written to a place: the buffer keeps its length, that place has the row, every other place its bytes. Assumes nothing.
use Rattle.std.specs.Prelude.{◌≡◌, ◌≢◌, List, ◌++◌, ℕ, ◌+◌, ◌-◌, ◌*◌, ◌≤◌, ◌<◌, length, take, drop}
use Rattle.std.proofs.Common.{sym, ◌∙◌, ap, suc-mul, mul-le-mul_right, arith, length-append, length-drop, take-append-drop, length-take-le, take_at, drop_at, drop-drop}
use Rattle.std.proofs.Math.Logic.{by_cases}
use Rattle.std.proofs.Math.Decide.{dec_lt}
use Rattle.std.proofs.lemmas.List.{take-append-le, drop-append-le}
use Rattle.measures.specs.Measures.{begins_at, bytes_at}
use Rattle.placing.specs.Placing.{put_at, Inside}

-- A stretch of a list, replaced by one as long

module _ (xs : List ℕ) (from width : ℕ) where
  abbrev replaced : List ℕ → List ℕ
  replaced bs = take from xs ++ (bs ++ drop (from + width) xs)

  -- what lies before the stretch is not changed by what comes after
  before : (q : ℕ) (rest : List ℕ) → q + width ≤ from → from ≤ length xs → take width (drop q (take from xs ++ rest)) ≡ take width (drop q (take from xs))
  before q rest l m =
      let size = length-take-le from xs m in
      rw (drop-append-le q (take from xs) rest (omega (arith, size)))
      (take-append-le width (drop q (take from xs)) rest (omega (arith, size, length-drop q (take from xs))))

  module _ (bs : List ℕ) (b : length bs ≡ width) (m : from + width ≤ length xs) where
    replaced_size : length (replaced bs) ≡ length xs
    replaced_size = omega (
      arith,
      length-append (take from xs) (bs ++ drop (from + width) xs),
      length-append bs (drop (from + width) xs),
      length-take-le from xs (omega arith),
      length-drop (from + width) xs,
    )

    replaced_from : drop from (replaced bs) ≡ bs ++ drop (from + width) xs
    replaced_from = drop_at (take from xs) (bs ++ drop (from + width) xs) from (length-take-le from xs (omega arith))

    replaced_here : take width (drop from (replaced bs)) ≡ bs
    replaced_here = rw replaced_from (take_at bs (drop (from + width) xs) width b)

    replaced_before : (q : ℕ) → q + width ≤ from → take width (drop q (replaced bs)) ≡ take width (drop q xs)
    replaced_before q l =
        before q (bs ++ drop (from + width) xs) l (omega arith)
        ∙ sym (before q (drop from xs) l (omega arith))
        ∙ ap (λ (r : List ℕ). take width (drop q r)) (take-append-drop from xs)

    -- past the stretch the two lists are the same
    replaced_past : drop (from + width) (replaced bs) ≡ drop (from + width) xs
    replaced_past =
        sym (drop-drop width from (replaced bs))
        ∙ ap (λ (r : List ℕ). drop width r) replaced_from
        ∙ drop_at bs (drop (from + width) xs) width b

    replaced_after : (q : ℕ) → from + width ≤ q → drop q (replaced bs) ≡ drop q xs
    replaced_after q l =
        let e : q ≡ (from + width) + (q - (from + width)) = omega arith in
        rw e
        (sym (drop-drop (q - (from + width)) (from + width) (replaced bs))
        ∙ ap (λ (r : List ℕ). drop (q - (from + width)) r) replaced_past
        ∙ drop-drop (q - (from + width)) (from + width) xs)

-- Places

-- of two places the first ends before the second begins
pub apart : (width q p : ℕ) → q < p → begins_at width q + width ≤ begins_at width p
apart width q p l = omega (arith, suc-mul q width, mul-le-mul_right width l)

pub bytes_size : (width : ℕ) (places : List ℕ) (p : ℕ) → begins_at width p + width ≤ length places → length (bytes_at width places p) ≡ width
unfolding bytes_at
bytes_size width places p m =
    length-take-le width (drop (begins_at width p) places) (omega (arith, length-drop (begins_at width p) places))

pub put_size : (width : ℕ) (places : List ℕ) (p : ℕ) (bs : List ℕ) → length bs ≡ width → begins_at width p + width ≤ length places → length (put_at width places p bs) ≡ length places
unfolding put_at
put_size width places p bs b m = replaced_size places (begins_at width p) width bs b m

pub bytes_put_same : (width : ℕ) (places : List ℕ) (p : ℕ) (bs : List ℕ) → length bs ≡ width → begins_at width p + width ≤ length places → bytes_at width (put_at width places p bs) p ≡ bs
unfolding bytes_at put_at
bytes_put_same width places p bs b m = replaced_here places (begins_at width p) width bs b m

pub bytes_put_other : (width : ℕ) (places : List ℕ) (p q : ℕ) (bs : List ℕ) → length bs ≡ width → begins_at width p + width ≤ length places → begins_at width q + width ≤ length places → q ≢ p → bytes_at width (put_at width places p bs) q ≡ bytes_at width places q
unfolding bytes_at put_at
bytes_put_other width places p q bs b m l d = by_cases (dec_lt q p)
    (λ s. replaced_before places (begins_at width p) width bs b m (begins_at width q) (apart width q p s))
    (λ s. ap (λ (r : List ℕ). take width r) (replaced_after places (begins_at width p) width bs b m (begins_at width q) (apart width p q (omega arith))))

-- the stretch that is lent, back with the row in it
pub put_stretch : (width : ℕ) (places : List ℕ) (p from : ℕ) (bs ys : List ℕ) → from ≡ begins_at width p → ys ≡ bs
    → take from places ++ (ys ++ drop ((from + width) - from) (drop from places)) ≡ put_at width places p bs
unfolding put_at
put_stretch width places p from bs ys f e =
    let w : (from + width) - from ≡ width = omega arith in
    rw (w, drop-drop, f, e)

-- a place below P lies inside P × B bytes
pub inside_of : (places : List ℕ) (width total p : ℕ) → width ≤ 1024 → total ≤ 4096 → length places ≡ total * width → p < total → Inside places width p
inside_of places width total p w t e l = record {
  narrow = w;
  low = omega arith;
  within = omega (arith, mul-le-mul_right width l, suc-mul p width);
}
