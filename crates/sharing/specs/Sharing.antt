-- How many share a row, when a row is shared, and the first free entry. Definitions only. Assumes nothing.
use Rattle.std.specs.Prelude.{◌≡◌, ◌≢◌, Bool, not, ◌&&◌, List, ℕ, eqb, length}
use Rattle.std.proofs.Math.Option.{Option}
use Rattle.basics.specs.Decide.{at}
use Rattle.basics.specs.Count.{count, first}
use Rattle.trees.specs.declared.Tree.{Tree}
use Rattle.trees.specs.Trees.{Table, Alive}
use Rattle.trees.specs.Reading.{place}
use Rattle.records.specs.Records.{is_found}
use Rattle.notes.specs.Notes.{Noted}
use Rattle.sharing.specs.declared.Looked.{Looked}

-- a living version, at node n, reads row r from place p
unfoldable pub reads_from : Tree → Table → ℕ → ℕ → ℕ → Bool
reads_from t e r p n = eqb (at t.state n) 1 && eqb (place t e n r) p

-- how many living versions read row r from the place from which node v reads it
unfoldable pub sharers_at : Tree → Table → ℕ → ℕ → ℕ
sharers_at t e v r = count (reads_from t e r (place t e v r)) 128

-- c living versions read row r from place p, in every table whose notes of the row these are
abbrev pub ReadersOf : Tree → List ℕ → ℕ → ℕ → ℕ → Type 0
ReadersOf t notes r p c = (e : Table) → Noted e r notes → c ≡ count (reads_from t e r p) 128

-- what the lookup finds of row r at node v: the place, and how many read it
pub record Finds (t : Tree) (e : Table) (v r : ℕ) (x : Looked) : Type 0 where
  pub place : x.place.0 ≡ place t e v r
  pub sharers : x.sharers ≡ sharers_at t e v r

-- another living version reads row r from the same place as the version at node v
abbrev pub SharedAt : Tree → Table → ℕ → ℕ → Type 0
SharedAt t e v r = (n : ℕ) × Alive t n × (n ≢ v) × (place t e n r ≡ place t e v r)

-- the same as a test

unfoldable pub is_sharer : Tree → Table → ℕ → ℕ → ℕ → Bool
is_sharer t e v r n = not (eqb n v) && reads_from t e r (place t e v r) n

unfoldable pub shared_at : Tree → Table → ℕ → ℕ → Bool
shared_at t e v r = is_found (first (is_sharer t e v r) 128)

unfoldable pub free_entry : List ℕ → Option ℕ
free_entry node = first (λ i. eqb (at node i) 0) (length node)
