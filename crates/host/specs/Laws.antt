-- From a call's promise on records to that on bytes. Assumes nothing.
use Rattle.std.specs.Prelude.{◌≡◌, refl, ◌≢◌, List, ℕ, ◌≤◌, length, take}
use Rattle.std.proofs.Common.{sym, ◌∙◌, length-take-le}
use Rattle.std.proofs.Math.Option.{Option, none, some}
use Rattle.measures.specs.declared.Size.{Size}
use Rattle.trees.specs.declared.Tree.{Tree}
use Rattle.records.specs.Records.{records_of}
use Rattle.answers.specs.declared.Refusal.{Refusal}
use Rattle.answers.specs.declared.Refusal.TheVariants.{Unsound}
use Rattle.answers.specs.Answers.{number}
use Rattle.answers.proofs.Laws.{number_some}
use Rattle.soundness.specs.Judged.{Judged, Leaves}
use Rattle.layout.specs.Layout.{entries, size_at, nodes_at, loaded, Fits}
use Rattle.host.specs.Host.{Host, HostEnds, Ready, Kept}

-- bytes that fit are judged by the records that they are loaded as; others are not sound
pub host_judged : {b : List ℕ} {Yes No : Type 0} → Fits b → Judged (loaded b) Yes No → Host b Yes No
host_judged f j = record { sound = λ g s. j.sound s; unsound = λ h. j.unsound (λ s. h f s) }

pub host_unfit : {b : List ℕ} {Yes No : Type 0} → (Fits b → ⊥) → No → Host b Yes No
host_unfit h n = record { sound = λ f s. absurd (h f); unsound = λ g. n }

-- what a call left, said of other things: if it was refused they are as they were, if not they are new
module _ {A B : Type 0} {old new got : A} {old' new' got' : B} {answer : ℕ} (h : answer ≢ 0 → got ≡ old → got' ≡ old') (k : answer ≡ 0 → got ≡ new → got' ≡ new') where
  leaves_kept : (v : Option Refusal) → Leaves v old new answer got → Leaves v old' new' answer got'
  leaves_kept none l = record { numbered = l.numbered; left = k l.numbered l.left }
  leaves_kept (some r) l = record { numbered = l.numbered; left = h (λ e. number_some r (sym l.numbered ∙ e)) l.left }

  pub host_kept : {b : List ℕ} (v : Option Refusal) → Fits b → Judged (loaded b) (Leaves v old new answer got) ((answer ≡ number Unsound) × (got ≡ old)) → HostEnds b v old' new' answer got'
  host_kept v f j = host_judged f (record {
    sound = λ s. leaves_kept v (j.sound s);
    unsound = λ g. let u = j.unsound g in (u.0, h (λ e. number_some Unsound (sym u.0 ∙ e)) u.1);
  })

-- what a call found is what the bytes are loaded as
pub as_loaded : (b : List ℕ) {size : Size} {t : Tree} {node row : List ℕ} → size ≡ size_at b → node ≡ nodes_at b → records_of (size_at b) t (nodes_at b) row ≡ loaded b → records_of size t node row ≡ loaded b
as_loaded b e n l = rw (e, n) l

-- the front of a buffer, as long as the table
pub ready : {b : List ℕ} (xs : List ℕ) {n : ℕ} → Fits b → n ≡ entries (size_at b) → n ≤ length xs → Ready b (take n xs)
ready xs {n} f e m = record { fits = f; rows = length-take-le n xs m ∙ e }

pub front : {n : ℕ} (xs : List ℕ) → n ≤ length xs → n ≡ length (take n xs)
front {n} xs m = sym (length-take-le n xs m)

-- what is kept behind a refusal, and behind a call that was done
pub kept_refused : (r : Refusal) (old new : List ℕ) → Kept (number r) old new old
kept_refused r old new = record { accepted = λ e. absurd (number_some r e); refused = λ n. refl }

pub kept_done : {old new got : List ℕ} → got ≡ new → Kept 0 old new got
kept_done e = record { accepted = λ z. e; refused = λ n. absurd (n refl) }
