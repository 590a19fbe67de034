-- What the calls of the C interface share, the records being bytes. Definitions only. Assumes nothing.
use Rattle.std.specs.Prelude.{◌≡◌, ◌≢◌, List, ℕ, length}
use Rattle.std.proofs.Math.Option.{Option}
use Rattle.records.specs.Sound.{Sound}
use Rattle.answers.specs.declared.Refusal.{Refusal}
use Rattle.answers.specs.declared.Refusal.TheVariants.{Unsound}
use Rattle.answers.specs.Answers.{number}
use Rattle.soundness.specs.Judged.{Leaves}
use Rattle.layout.specs.Layout.{entries, size_at, loaded, Fits}

-- bytes are judged as a whole: they are as many as they should be and are loaded as sound records, or not
pub record Host (b : List ℕ) (Yes No : Type 0) : Type 0 where
  pub sound : Fits b → Sound (loaded b) → Yes
  pub unsound : (Fits b → Sound (loaded b) → ⊥) → No

-- a call that may change something: as its tests say on sound records; 20, and all as it was, on others
abbrev pub HostEnds : {A : Type 0} → List ℕ → Option Refusal → A → A → ℕ → A → Type 0
HostEnds b verdict old new answer got = Host b (Leaves verdict old new answer got) ((answer ≡ number Unsound) × (got ≡ old))

-- the records and the places
abbrev pub Lent : Type 0
Lent = List ℕ × List ℕ

-- a buffer for the rows, of the length that the bytes ask for
pub record Ready (b row : List ℕ) : Type 0 where
  pub fits : Fits b
  pub rows : length row ≡ entries (size_at b)

-- What is kept of the record bytes: new ones where a call was accepted, else those that were there
pub record Kept (answer : ℕ) (old new got : List ℕ) : Type 0 where
  pub accepted : answer ≡ 0 → got ≡ new
  pub refused : answer ≢ 0 → got ≡ old
