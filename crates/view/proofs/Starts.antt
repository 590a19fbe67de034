-- Where agreement begins: a store of sound records with the model that starts from it, and the first store with the opened model. Assumes nothing.
use Rattle.std.specs.Prelude.{◌≡◌, refl, true, List, [], ◌∷◌, ℕ, suc, ◌+◌, ◌-◌, ◌*◌, ◌≤◌, ◌<◌, length, take, drop, replicate}
use Rattle.std.proofs.Common.{sym, ◌∙◌, inl, inr, mul-le-mul_right, suc-mul, arith, length-take, length-drop, ext_get_or, get_or-take, get_or-drop}
use Rattle.std.proofs.lemmas.List.{length-replicate, get_or-replicate}
use Rattle.measures.specs.declared.Size.{Size}
use Rattle.measures.specs.Measures.{Within, bytes_at}
use Rattle.records.specs.Records.{Records, records_of, tag_place}
use Rattle.trees.specs.Trees.{is_snapshot}
use Rattle.opening.specs.Opening.{first_tree}
use Rattle.opening.specs.First.{first_sound}
use Rattle.copies.specs.Copies.{Cell, alive, Live}
use Rattle.model.specs.Model.{opened}
use Rattle.agreement.specs.Agree.{Agree}
use Rattle.copies.specs.Living.{alive_in}
use Rattle.copies.specs.Members.{In}
use Rattle.agreement.proofs.Steps.{alike_agree, first_agree, start_agree}
use Rattle.view.specs.View.{tags_below, view, Store, started}
use Rattle.view.proofs.Viewed.{view_low, view_rows, view_home}

pub start_agrees : (z : Records) (places : List ℕ) → Store z places → Agree z.size (view z places) (started z places)
unfolding view started
start_agrees z places st = start_agree z.size (view z places) (view_low z st.sound places) (view_rows z st.sound places) (λ r l. view_home z st.sound places r)

-- The first store: no snapshots, every byte zero

no_tags : tags_below first_tree 128 ≡ []
unfolding tags_below is_snapshot
no_tags = refl

abbrev zeros : ℕ → List ℕ
zeros n = replicate n 0

zeros_part : (m k n : ℕ) → k + n ≤ m → take n (drop k (zeros m)) ≡ zeros n
zeros_part m k n l = ext_get_or 0 (take n (drop k (zeros m))) (zeros n) (long ∙ sym (length-replicate n 0)) (λ i h.
    let j : i < n = omega (arith, long) in
    get_or-take n (drop k (zeros m)) i 0 j
    ∙ get_or-drop k (zeros m) i 0
    ∙ get_or-replicate m (k + i) 0 0 (omega arith)
    ∙ sym (get_or-replicate n i 0 0 j))
  where
    long : length (take n (drop k (zeros m))) ≡ n
    long = simp (length-take, length-drop, length-replicate) (omega arith)

-- place p ends where q begins, or before
stretch : (p q b : ℕ) → p < q → p * b + b ≤ q * b
stretch p q b l = omega (arith, mul-le-mul_right b (let h : suc p ≤ q = l in h), suc-mul p b)

bytes_zero : (width p q : ℕ) → p < q → bytes_at width (zeros (q * width)) p ≡ zeros width
unfolding bytes_at
bytes_zero width p q l = zeros_part (q * width) (p * width) width (stretch p q width l)

-- with no snapshots only the origin lives
origin_only : (u : ℕ) → alive [] u ≡ true → u ≡ 0
origin_only u e = go ((alive_in [] u).0 e)
  where
    go : In u (0 ∷ []) → u ≡ 0
    go (inl h) = h
    go (inr i) = absurd i

pub open_agrees : (z : Size) → Within z → (n : ℕ) → n ≡ z.places - z.rows
    → Agree z (view (records_of z first_tree (replicate n 0) (replicate n 0)) (replicate (z.places * z.width) 0)) (opened z)
unfolding view
open_agrees z w n e = alike_agree z (first_agree z) (record {
  tags = λ t. rw no_tags;
  place = home;
  content = λ c l. rw (home c l) (bytes_zero z.width c.1 z.places (omega (arith, l.1, w.places.0)));
})
  where
    first : Records
    first = records_of z first_tree (zeros n) (zeros n)

    home : (c : Cell) → Live z.rows [] c → tag_place first c.0 c.1 ≡ c.1
    home c l = rw (origin_only c.0 l.0) (view_home first (first_sound z w n e) [] c.1)
