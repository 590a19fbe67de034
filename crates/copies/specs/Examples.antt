-- Copies of numbers, by evaluation: two rows of the origin, a snapshot 7 of it, then 5 in row 1 of 7. Assumes nothing.
use Rattle.std.specs.Prelude.{◌≡◌, refl, true, false, [], ◌∷◌, map, ℕ}
use Rattle.copies.specs.Copies.{Copies, any, only, different, living, without, cells, shared, sharers, places_used, adopt, put, fresh, copied, renewed}

taken : Copies ℕ
taken = copied 0 7 (renewed (0, 1) 9 (fresh 2 0))

changed : Copies ℕ
changed = renewed (7, 1) 5 taken

-- (0, 1), (0, 0), (7, 1), (7, 0): a copy, then a number of its own
contents : (map taken.content (cells 2 (living (7 ∷ []))) ≡ 9 ∷ 0 ∷ 9 ∷ 0 ∷ []) × (map changed.content (cells 2 (living (7 ∷ []))) ≡ 9 ∷ 0 ∷ 5 ∷ 0 ∷ [])
unfolding taken changed adopt put
contents = (refl, refl)

-- row 1 was shared and is not any longer; row 0 is
sharing : (shared (7 ∷ []) taken.mark 7 1 ≡ true) × (shared (7 ∷ []) changed.mark 7 1 ≡ false) × (shared (7 ∷ []) changed.mark 0 0 ≡ true)
unfolding taken changed adopt put any shared
sharing = (refl, refl, refl)

-- both have row 1; then each alone; and of row 0 both
numbers : (sharers (7 ∷ []) taken.mark 7 1 ≡ 2) × (sharers (7 ∷ []) changed.mark 7 1 ≡ 1) × (sharers (7 ∷ []) changed.mark 0 0 ≡ 2)
unfolding taken changed adopt put any only different sharers
numbers = (refl, refl, refl)

-- a mark is counted once, and only where a version lives
used : (places_used 2 (7 ∷ []) taken.mark ≡ 2) × (places_used 2 (7 ∷ []) changed.mark ≡ 3) × (places_used 2 (without 7 (7 ∷ [])) changed.mark ≡ 2)
unfolding taken changed adopt put any different without places_used
used = (refl, refl, refl)
