-- What a call does to a store seen as a place map, and when the map agrees with the reference model. Definitions only. Assumes nothing.
use Rattle.std.specs.Prelude.{◌≡◌, List, ℕ}
use Rattle.std.proofs.Math.Option.{Option}
use Rattle.measures.specs.declared.Size.{Size}
use Rattle.answers.specs.declared.Refusal.{Refusal}
use Rattle.answers.specs.Answers.{Answer, refused_of}
use Rattle.answers.specs.Tests.{refusal, unless}
use Rattle.maps.specs.Map.{Map, joined, left, Alike, Save, Mirrors}
use Rattle.model.specs.Call.{Single, snapshot, read, write, delete, count, one}
use Rattle.model.specs.Model.{Model, tests, gives, accepted}

-- what lies in a place are the bytes of a row
abbrev pub RowMap : Type 0
RowMap = Map (List ℕ)

module _ (z : Size) where
  -- what an accepted call does to the map
  unfoldable pub Effect : RowMap → Single → RowMap → Type 0
  Effect m (snapshot s t) m' = Alike z.rows m' (joined s t m)
  Effect m (read t r) m' = Alike z.rows m' m
  Effect m (write t r bs) m' = Save z.rows m t r bs m'
  Effect m (delete t) m' = Alike z.rows m' (left t m)
  Effect m count m' = Alike z.rows m' m

  -- the verdict and the answer of a call on the map: the reference model's tests, with places for marks
  unfoldable pub map_verdict : RowMap → Single → Option Refusal
  map_verdict m c = refusal (tests z m.tags m.place (λ d. m.content (m.place d)) c)

  unfoldable pub map_answer : RowMap → Single → Answer
  map_answer m c = unless (map_verdict m c) (refused_of (gives (one c))) (accepted z m.tags m.place (λ d. m.content (m.place d)) c)

  -- one call: its answer, and its effect if it is accepted; a refused one changes nothing
  pub record Step (m : RowMap) (c : Single) (a : Answer) (m' : RowMap) : Type 0 where
    pub says : a ≡ map_answer m c
    pub goes : unless (map_verdict m c) (λ r. Alike z.rows m' m) (Effect m c m')

  -- The agreement of a map with the reference model
  pub record Agree (m : RowMap) (s : Model) : Type 0 where
    pub rows : Mirrors z.rows m s.snapshots s.rows
