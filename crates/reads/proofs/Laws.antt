-- The ways out of read, one for each test on sound records, and that a place read lies inside the places. Assumes nothing.
use Rattle.std.specs.Prelude.{◌≡◌, refl, not, ℕ, suc, ◌+◌, ◌*◌, ◌≤◌, ◌<◌, leb, length}
use Rattle.std.proofs.Common.{sym, ◌∙◌, ap, mul-le-mul_right, suc-mul, arith, eq-eqb, ne_eqb, le-leb}
use mathlib.Core.List.{List, [], ◌∷◌}
use Rattle.std.proofs.Math.Option.{none, some}
use Rattle.std.proofs.lemmas.Bool.{lt-leb}
use Rattle.basics.specs.Decide.{not_yes, not_no}
use Rattle.measures.specs.Measures.{begins_at, bytes_at}
use Rattle.trees.specs.declared.Tree.{Tree}
use Rattle.records.specs.Records.{Records, table, lives, tag_place}
use Rattle.trees.specs.Trees.{InUse, version}
use Rattle.trees.specs.Reading.{place}
use Rattle.records.specs.Sound.{Sound}
use Rattle.tree.specs.Nodes.{version_alive}
use Rattle.reading.specs.Lookup.{Looking}
use Rattle.reading.specs.Used.{place_low}
use Rattle.sharing.specs.Sharing.{sharers_at}
use Rattle.answers.specs.declared.Refusal.{Refusal}
use Rattle.answers.specs.declared.Refusal.TheVariants.{BadLength, BadRow, UnknownTag}
use Rattle.answers.specs.Answers.{number, row}
use Rattle.answers.specs.Tests.{Tests, refusal}
use Rattle.answers.proofs.Laws.{refusal_here, refusal_next, refusal_none}
use Rattle.soundness.specs.Judged.{judged_sound}
use Rattle.soundness.specs.Parts.{few_places}
use Rattle.placing.specs.Placing.{Inside, Spot, Lies}
use Rattle.reads.specs.Reads.{read_tests, row_of_tag, sharers_of_tag, read_answer, part_from, ReadEnds, ReadPart}

-- the empty part at the front of what is lent
abbrev Nothing : Spot → List ℕ → Spot → Type 0
Nothing whole bytes part = (bytes ≡ []) × Lies whole 0 part

pub nothing : (whole : Spot) → Nothing whole [] whole
nothing whole = (refl, record { memory = refl; offset = omega arith })

module _ (z : Records) (places : List ℕ) (tag r : ℕ) where
  -- a read's whole promise: what it answers, and which part of the places it hands out
  abbrev Promise : ℕ → ℕ → Spot → List ℕ → Spot → Type 0
  Promise number sharers whole bytes part = ReadEnds z places tag r number bytes sharers × ReadPart z places tag r whole part

  tag_test : Tests
  tag_test = (not (lives z tag), UnknownTag) ∷ []

  row_test : Tests
  row_test = (leb z.size.rows r, BadRow) ∷ tag_test

  module _ (s : Sound z) where
    read_refused : (x : Refusal) → refusal (read_tests z (length places) tag r) ≡ some x → {whole part : Spot} {bytes : List ℕ} → Nothing whole bytes part → Promise (number x) 0 whole bytes part
    unfolding read_answer part_from
    read_refused x e (h, l) = (judged_sound s (rw (e, h)), judged_sound s (rw e l))

    pub read_length : (length places ≡ z.size.places * z.size.width → ⊥) → {whole part : Spot} {bytes : List ℕ} → Nothing whole bytes part → Promise 2 0 whole bytes part
    unfolding read_tests
    read_length h = read_refused BadLength (refusal_here BadLength _ (not_yes (ne_eqb _ _ h)))

    module _ (p : length places ≡ z.size.places * z.size.width) where
      length_passed : refusal (read_tests z (length places) tag r) ≡ refusal row_test
      unfolding read_tests row_test tag_test
      length_passed = refusal_next BadLength _ (not_no (eq-eqb _ _ p))

      pub read_row : (r < z.size.rows → ⊥) → {whole part : Spot} {bytes : List ℕ} → Nothing whole bytes part → Promise 3 0 whole bytes part
      unfolding row_test
      read_row h = read_refused BadRow (length_passed ∙ refusal_here BadRow tag_test (le-leb z.size.rows r (omega arith)))

      module _ (l : r < z.size.rows) where
        row_passed : refusal (read_tests z (length places) tag r) ≡ refusal tag_test
        unfolding row_test
        row_passed = length_passed ∙ refusal_next BadRow tag_test (lt-leb _ _ l)

        pub read_tag : version z.tree tag ≡ none → {whole part : Spot} {bytes : List ℕ} → Nothing whole bytes part → Promise 21 0 whole bytes part
        unfolding tag_test lives
        read_tag v = read_refused UnknownTag (row_passed ∙ refusal_here UnknownTag [] (rw v))

        -- the row of the version at node n, in the place from which that reads it, and how many read it from there
        pub read_done : (n : ℕ) → version z.tree tag ≡ some n → {whole part : Spot} {bytes : List ℕ} {sharers : ℕ} → bytes ≡ bytes_at z.size.width places (place z.tree (table z) n r)
            → Lies whole (begins_at z.size.width (place z.tree (table z) n r)) part → sharers ≡ sharers_at z.tree (table z) n r → Promise 0 sharers whole bytes part
        unfolding tag_test lives read_answer row_of_tag sharers_of_tag tag_place part_from
        read_done n v h m k =
            let e : refusal (read_tests z (length places) tag r) ≡ none = row_passed ∙ refusal_next UnknownTag [] (rw v) ∙ refusal_none in
            let f : tag_place z tag r ≡ place z.tree (table z) n r = rw v in
            let g : part_from z (length places) tag r ≡ begins_at z.size.width (place z.tree (table z) n r) = rw e (ap (begins_at z.size.width) f) in
            (judged_sound s (rw (e, v) (λ i. row (h i) (k i))), judged_sound s (rw g m))

-- the node of a living version is in use, and the lookup may start from it
pub version_used : (t : Tree) (tag n : ℕ) → version t tag ≡ some n → InUse t n
version_used t tag n v = let (a, g) = version_alive t tag n v in (a.0, omega (arith, a.1))

pub looking : (z : Records) → Sound z → (tag n : ℕ) → version z.tree tag ≡ some n → Looking z.tree (table z) n
looking z s tag n v = record {
  climbs = record { parents = λ k l e u. s.linked.parent k e u; used = version_used z.tree tag n v };
  halves = s.measured.rows ∙ sym s.measured.nodes;
  few = few_places z s;
}

-- a place that a node in use reads lies inside P × B bytes
pub read_inside : (z : Records) → Sound z → (places : List ℕ) → length places ≡ z.size.places * z.size.width → (n r : ℕ) → InUse z.tree n → r < z.size.rows → Inside places z.size.width (place z.tree (table z) n r)
read_inside z s places e n r u l =
    let w = s.measured.within in
    let p = place_low z s n r u l in
    record {
      narrow = w.width.1;
      low = omega (arith, p, w.places.1);
      within = omega (arith, e, stretch (place z.tree (table z) n r) z.size.places z.size.width p);
    }
  where
    stretch : (p q b : ℕ) → p < q → p * b + b ≤ q * b
    stretch p q b l = omega (arith, mul-le-mul_right b (let h : suc p ≤ q = l in h), suc-mul p b)
