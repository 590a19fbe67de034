-- A store as a place map: the tags that live, the place from which each reads a row, the bytes of each place; and the reference model
-- that starts from such a store (document 01's sound records from elsewhere, SPEC 6.6). Definitions only. Assumes nothing.
use Rattle.std.specs.Prelude.{◌≡◌, cond, List, [], ◌∷◌, ℕ, zero, suc, ◌*◌, length}
use Rattle.basics.specs.Decide.{at}
use Rattle.measures.specs.Measures.{bytes_at}
use Rattle.trees.specs.declared.Tree.{Tree}
use Rattle.records.specs.Records.{Records, tag_place}
use Rattle.trees.specs.Trees.{is_snapshot}
use Rattle.records.specs.Sound.{Sound}
use Rattle.model.specs.Model.{Model}
use Rattle.agreement.specs.Agree.{RowMap, Agree}

-- the tags of the snapshots at nodes below n
unfoldable pub tags_below : Tree → ℕ → List ℕ
tags_below t zero = []
tags_below t (suc n) = cond (is_snapshot t n) (at t.tag n ∷ tags_below t n) (tags_below t n)

unfoldable pub view : Records → List ℕ → RowMap
view z places = record {
  tags = tags_below z.tree 128;
  place = λ c. tag_place z c.0 c.1;
  content = bytes_at z.size.width places;
}

-- sound records with P × B bytes of places
pub record Store (z : Records) (places : List ℕ) : Type 0 where
  pub sound : Sound z
  pub size : length places ≡ z.size.places * z.size.width

-- the model that starts with the bytes the versions read, its first marks the places they read
unfoldable pub started : Records → List ℕ → Model
started z places = record {
  snapshots = tags_below z.tree 128;
  rows = record {
    content = λ c. bytes_at z.size.width places (tag_place z c.0 c.1);
    mark = λ c. tag_place z c.0 c.1;
    next = z.size.places;
  };
}

-- THE AGREEMENT of a store with the reference model, one relation for all calls: the same tags live, every row of every living version
-- has the same bytes, two rows are read from one place exactly if they have one mark, and marks are below the next
abbrev pub Agrees : Records → List ℕ → Model → Type 0
Agrees z places m = Agree z.size (view z places) m
