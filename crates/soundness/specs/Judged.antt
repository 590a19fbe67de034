-- What a call promises, for sound records and for others; and what it leaves of a thing that it may change. Assumes nothing.
use Rattle.std.specs.Prelude.{◌≡◌, ℕ}
use Rattle.std.proofs.Math.Option.{Option, none, some}
use Rattle.records.specs.Records.{Records}
use Rattle.records.specs.Sound.{Sound}
use Rattle.answers.specs.declared.Refusal.{Refusal}
use Rattle.answers.specs.Answers.{number}
use Rattle.answers.specs.Tests.{unless, verdict_number}

-- what holds of a call on sound records, and on others
pub record Judged (z : Records) (Yes No : Type 0) : Type 0 where
  pub sound : Sound z → Yes
  pub unsound : (Sound z → ⊥) → No

-- a verdict's number is answered; what may change is as it was if refused, and new if not
pub record Leaves {A : Type 0} (verdict : Option Refusal) (old new : A) (answer : ℕ) (got : A) : Type 0 where
  pub numbered : answer ≡ verdict_number verdict
  pub left : got ≡ unless verdict (λ r. old) new

-- with the judgement known, one side is left
pub judged_sound : {z : Records} {Yes No : Type 0} → Sound z → Yes → Judged z Yes No
judged_sound s y = record { sound = λ x. y; unsound = λ f. absurd (f s) }

pub judged_unsound : {z : Records} {Yes No : Type 0} → (Sound z → ⊥) → No → Judged z Yes No
judged_unsound f n = record { sound = λ s. absurd (f s); unsound = λ x. n }

module _ {A : Type 0} {v : Option Refusal} {old new : A} where
  pub leaves_refused : (x : Refusal) → v ≡ some x → Leaves v old new (number x) old
  leaves_refused x e = record { numbered = rw e; left = rw e }

  pub leaves_done : v ≡ none → {got : A} → got ≡ new → Leaves v old new 0 got
  leaves_done e h = record { numbered = rw e; left = rw e h }

-- the same verdict and the same new thing, said otherwise
pub leaves_same : {A : Type 0} {v v' : Option Refusal} {old new new' got : A} {answer : ℕ} → v ≡ v' → new ≡ new' → Leaves v' old new' answer got → Leaves v old new answer got
leaves_same p q l = rw (p, q) l
