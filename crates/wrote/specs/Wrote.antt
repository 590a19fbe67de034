-- A write keeps the records sound, the places as many and the tree's arrays whole. Assumes nothing.
use Rattle.std.specs.Prelude.{◌≡◌, refl, ◌≢◌, Bool, cond, List, ℕ, ◌+◌}
use Rattle.std.proofs.Common.{⊎_elim, arith, eq-eqb, ne_eqb}
use Rattle.std.proofs.Math.Logic.{by_cases}
use Rattle.std.proofs.Math.Bool.{true, false}
use Rattle.std.proofs.Math.Option.{Option, none, some}
use Rattle.std.proofs.Math.Decide.{ℕ_discrete}
use Rattle.measures.specs.declared.Size.{Size}
use Rattle.measures.specs.Measures.{bytes_at}
use Rattle.records.specs.Records.{Records, records_of, table, place_by, tag_place}
use Rattle.trees.specs.Trees.{version}
use Rattle.trees.specs.Reading.{place}
use Rattle.records.specs.Sound.{Sound}
use Rattle.answers.specs.declared.Refusal.{Refusal}
use Rattle.answers.specs.Tests.{unless}
use Rattle.tree.specs.Nodes.{version_alive}
use Rattle.reading.specs.Used.{place_low}
use Rattle.edits.specs.Edits.{FreeEntry}
use Rattle.nodes.specs.Nodes.{first_child}
use Rattle.sharing.specs.Sharing.{free_entry, shared_at}
use Rattle.sharing.specs.Laws.{free_some}
use Rattle.owning.specs.Owning.{Held, held}
use Rattle.moving.specs.Moving.{held_to_free}
use Rattle.saving.specs.Saving.{saving, saving_by}
use Rattle.writes.specs.Unsharing.{shared_to}
use Rattle.writes.specs.Storing.{held_in_place, written_at}
use Rattle.writes.specs.Touching.{untouched_at}
use Rattle.writes.proofs.TouchingLaws.{untouched_left, touched_left, as_read}
use Rattle.writes.specs.Writing.{write_verdict, written_by, written}
use Rattle.intact.specs.Intact.{Intact}
use Rattle.wrote.specs.WroteBytes.{put_long, saved_long}
use Rattle.wrote.specs.WroteAllowed.{Allowed, write_allowed}
use Rattle.wrote.specs.WroteRecords.{free_found, free_low, parted_whole, row_moved, row_saved}

-- the store that a write leaves
abbrev pub write_left : Records → List ℕ → ℕ → ℕ → List ℕ → Held
write_left z places tag r bs = unless (write_verdict z places tag r bs) (λ x. held z.tree z.node z.row places) (written z places tag r bs)

abbrev pub held_records : Size → Held → Records
held_records size h = records_of size h.tree h.node h.row

-- what holds of each way to write holds of what an accepted write leaves
module _ (z : Records) (s : Sound z) (places : List ℕ) (tag r : ℕ) (bs : List ℕ) (v : ℕ) (a : Allowed z tag r bs v) (t : untouched_at z places r bs v ≡ false) (P : Held → Type 0) where
  pub by_ways : (shared_at z.tree (table z) v r ≡ false → P (held_in_place z places r bs v))
      → (shared_at z.tree (table z) v r ≡ true → (i : ℕ) → FreeEntry z i → v ≢ 0 → P (held_to_free z places r bs v i))
      → (shared_at z.tree (table z) v r ≡ true → (i : ℕ) → FreeEntry z i → v ≡ 0 → P (saving_by z places r bs (first_child z.tree 0) i))
      → P (written z places tag r bs)
  unfolding written written_at
  by_ways own free save = rw (a.stands, touched_left z places r bs v t) (go (shared_at z.tree (table z) v r) refl)
    where
      go : (b : Bool) → shared_at z.tree (table z) v r ≡ b → P (cond b (shared_to z places r bs v (free_entry z.node)) (held_in_place z places r bs v))
      go false e = own e
      go true e =
          let (i, f) = free_found z s (a.room e) in
          let k : FreeEntry z i = free_some z.node i f in
          rw f (by_cases (ℕ_discrete v 0)
          (λ h. rw (eq-eqb v 0 h) (save e i k h))
          (λ h. rw (ne_eqb v 0 h) (free e i k h)))

-- a row that is as it is to be
pub untouched_written : (z : Records) (places : List ℕ) (tag r : ℕ) (bs : List ℕ) (v : ℕ) → version z.tree tag ≡ some v → untouched_at z places r bs v ≡ true
    → written z places tag r bs ≡ held z.tree z.node z.row places
unfolding written
untouched_written z places tag r bs v h t = rw (h, untouched_left z places r bs v t)

-- the bytes that the version with the tag reads there
pub written_as_read : (z : Records) (places : List ℕ) (tag r : ℕ) (bs : List ℕ) → bs ≡ bytes_at z.size.width places (tag_place z tag r)
    → written z places tag r bs ≡ held z.tree z.node z.row places
unfolding written tag_place
written_as_read z places tag r bs e = go (version z.tree tag) e
  where
    go : (o : Option ℕ) → bs ≡ bytes_at z.size.width places (place_by z o r) → written_by z places r bs o ≡ held z.tree z.node z.row places
    go none h = refl
    go (some v) h = untouched_left z places r bs v (as_read z places r bs v h)

module _ (z : Records) (places : List ℕ) (k : Intact z places) (tag r : ℕ) (bs : List ℕ) where
  abbrev Keeps : Held → Type 0
  Keeps h = Intact (held_records z.size h) h.places

  -- the three ways
  module _ (v : ℕ) (a : Allowed z tag r bs v) where
    own_place : shared_at z.tree (table z) v r ≡ false → Keeps (held_in_place z places r bs v)
    unfolding held_in_place
    own_place e =
        let (x, g) = version_alive z.tree tag v a.stands in
        let low = place_low z k.sound v r (x.0, omega (arith, x.1)) a.low in
        record { sound = k.sound; size = put_long z.size.width z.size.places places k.size (place z.tree (table z) v r) bs low a.width; whole = k.whole }

    module _ (e : shared_at z.tree (table z) v r ≡ true) (i : ℕ) (f : FreeEntry z i) where
      free_place : v ≢ 0 → Keeps (held_to_free z places r bs v i)
      unfolding held_to_free
      free_place off = record {
        sound = (row_moved z k.sound tag r v bs a e i f k.whole off).sound;
        size = put_long z.size.width z.size.places places k.size (z.size.rows + i) bs (free_low z k.sound i f.0) a.width;
        whole = parted_whole z.tree v k.whole;
      }

      origin_place : v ≡ 0 → Keeps (saving_by z places r bs (first_child z.tree 0) i)
      unfolding saving
      origin_place h =
          let (c, q, m) = row_saved z k.sound tag r v bs a e i f h in
          rw q (record {
            sound = m.sound;
            size = saved_long z k.sound places k.size r (z.size.rows + i) (free_low z k.sound i f.0) a.low bs a.width;
            whole = k.whole;
          })

  -- the whole call
  pub write_intact : Intact (held_records z.size (write_left z places tag r bs)) (write_left z places tag r bs).places
  write_intact = go (write_verdict z places tag r bs) refl
    where
      go : (o : Option Refusal) → write_verdict z places tag r bs ≡ o → Keeps (unless o (λ x. held z.tree z.node z.row places) (written z places tag r bs))
      go none e =
          let (v, h, w) = write_allowed z places tag r bs e in
          ⊎_elim (λ t. rw (untouched_written z places tag r bs v h t) k) (λ (t, a). by_ways z k.sound places tag r bs v a t Keeps (own_place v a) (free_place v a) (origin_place v a)) w
      go (some x) e = k
