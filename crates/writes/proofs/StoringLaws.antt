-- What a writable row gives to the lookup, and what the lookup's number says of it. Assumes nothing.
use Rattle.std.specs.Prelude.{◌≡◌, true, false, List, ℕ, ◌<◌}
use Rattle.std.proofs.Common.{sym, ◌∙◌, arith}
use Rattle.basics.specs.Decide.{decides_true, decides_false}
use Rattle.records.specs.Records.{Records, table}
use Rattle.trees.specs.Reading.{place}
use Rattle.reading.specs.Lookup.{Looking}
use Rattle.reading.specs.Used.{place_low}
use Rattle.placing.specs.Placing.{Inside}
use Rattle.sharing.specs.declared.Looked.{Looked}
use Rattle.sharing.specs.Sharing.{Finds, shared_at}
use Rattle.sharing.specs.Laws.{shared_number, shared_decides}
use Rattle.owning.specs.Owning.{Writable}
use Rattle.owning.specs.Laws.{used_node, few_entries, inside}

module _ {z : Records} {places : List ℕ} {v r : ℕ} {bs : List ℕ} (w : Writable z places v r bs) where
  pub inside_place : Inside places z.size.width (place z.tree (table z) v r)
  inside_place = inside w _ (place_low z w.sound v r (used_node w) w.low)

  pub looking_of : Looking z.tree (table z) v
  looking_of = record {
    climbs = record { parents = λ k l e u. w.sound.linked.parent k e u; used = used_node w };
    halves = w.sound.measured.rows ∙ sym w.sound.measured.nodes;
    few = few_entries w;
  }

  -- shared if more than one read it, and else not
  pub many_share : {x : Looked} → Finds z.tree (table z) v r x → 1 < x.sharers → shared_at z.tree (table z) v r ≡ true
  many_share f l = decides_true (shared_decides z.tree (table z) v r) ((shared_number z.tree (table z) v r w.alive).0 (omega (arith, f.sharers)))

  pub few_share : {x : Looked} → Finds z.tree (table z) v r x → x.sharers < 2 → shared_at z.tree (table z) v r ≡ false
  few_share f l = decides_false (shared_decides z.tree (table z) v r) (λ h. omega (arith, f.sharers, (shared_number z.tree (table z) v r w.alive).1 h))
