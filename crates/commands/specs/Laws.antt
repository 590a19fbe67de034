-- Laws of the commands' format: how long a command is, and so where its operands lie. Assumes nothing.
use Rattle.std.specs.Prelude.{◌≡◌, Bool, ◌≢◌, List, ℕ, ◌+◌, ◌-◌, ◌≤◌, ◌<◌, eqb, leb, ltb, length}
use Rattle.std.proofs.Math.Path.{refl}
use Rattle.std.proofs.Common.{sym, ◌∙◌, ap, arith}
use Rattle.std.proofs.Math.Bool.{true, false, cond}
use Rattle.std.proofs.lemmas.Bool.{false≢true}
use Rattle.std.proofs.Math.Logic.{by_cases}
use Rattle.std.proofs.Math.Option.{none, some}
use Rattle.std.proofs.Math.Decide.{ℕ_discrete, dec_le, dec_lt}
use borrow.Author.Tests.{eqb-true, eq-eqb, ne_eqb, le-leb, lt-leb, lt-ltb, le-ltb}
use Rattle.basics.specs.Decide.{at}
use Rattle.laying.specs.Laid.{pair_at}
use Rattle.answers.specs.Tests.{verdict_number}
use Rattle.model.specs.Call.{write, Call, one}
use Rattle.commands.specs.declared.Command.{Command}
use Rattle.commands.specs.declared.Step.{Step}
use Rattle.commands.specs.declared.Command.TheVariants.{Over, Unknown, Cut, Snapshot, Read, Write, Delete, Count}
use Rattle.commands.specs.Format.{size_of, command_of, refusal_of, step_at, stand, call_at, row_at, Reading}

size_two : (width kind : ℕ) → 1 ≤ kind → kind ≤ 3 → 5 ≤ size_of width kind
unfolding size_of
size_two width kind l m = by_cases (ℕ_discrete kind 1)
    (λ e. rw (eq-eqb kind 1 e) (omega arith))
    (λ f. by_cases (ℕ_discrete kind 2)
    (λ e. rw (ne_eqb kind 1 f, eq-eqb kind 2 e) (omega arith))
    (λ g. rw (ne_eqb kind 1 f, ne_eqb kind 2 g, eq-eqb kind 3 (omega arith)) (omega arith)))

size_one : (width : ℕ) → 3 ≤ size_of width 4
unfolding size_of
size_one width = omega arith

-- a snapshot, a read or a write has two operands, a delete one
pub two_operands : {width : ℕ} {s : List ℕ} {p : ℕ} → Reading width s p → 1 ≤ at s p → at s p ≤ 3 → p + 5 ≤ length s
two_operands {width} {s} {p} r l m = omega (arith, r.whole, size_two width (at s p) l m)

pub one_operand : {width : ℕ} {s : List ℕ} {p : ℕ} → Reading width s p → at s p ≡ 4 → p + 3 ≤ length s
one_operand {width} {s} {p} r e = let w : p + size_of width 4 ≤ length s = rw (sym e) r.whole in omega (arith, w, size_one width)

size_three : (width kind : ℕ) → kind ≡ 3 → size_of width kind ≡ 5 + width
unfolding size_of
size_three width kind e = rw e

abbrev kind_of : Command → ℕ
kind_of Over = 0
kind_of Unknown = 0
kind_of Cut = 0
kind_of (Snapshot source tag) = 1
kind_of (Read tag row) = 2
kind_of (Write tag row) = 3
kind_of (Delete tag) = 4
kind_of Count = 5

-- something stands there
abbrev pub stands : Command → Bool
stands Over = false
stands Unknown = true
stands Cut = true
stands (Snapshot source tag) = true
stands (Read tag row) = true
stands (Write tag row) = true
stands (Delete tag) = true
stands Count = true

-- What stands at a position, by its tests

none_some : {A : Type 0} {x : A} → none ≡ some x → ⊥
none_some e = let z : ◌≡◌ {A = ℕ} 0 1 = cc in absurd (omega arith)

module _ (width : ℕ) (s : List ℕ) (p : ℕ) where
  pub step_over : length s ≤ p → step_at width s p ≡ stand Over p
  unfolding step_at
  step_over l = rw (le-leb (length s) p l)

  step_unknown : p < length s → size_of width (at s p) ≡ 0 → step_at width s p ≡ stand Unknown p
  unfolding step_at
  step_unknown l e = rw (lt-leb (length s) p l, eq-eqb (size_of width (at s p)) 0 e)

  step_cut : p < length s → size_of width (at s p) ≢ 0 → length s - p < size_of width (at s p) → step_at width s p ≡ stand Cut p
  unfolding step_at
  step_cut l e f = rw (lt-leb (length s) p l, ne_eqb (size_of width (at s p)) 0 e, lt-ltb (length s - p) (size_of width (at s p)) f)

  step_whole : Reading width s p → step_at width s p ≡ stand (command_of s p (at s p)) (p + size_of width (at s p))
  unfolding step_at
  step_whole r = rw (
    lt-leb (length s) p r.inside,
    ne_eqb (size_of width (at s p)) 0 (omega (arith, r.known)),
    le-ltb (length s - p) (size_of width (at s p)) (omega (arith, r.whole)),
  )

  no_call : {c : Call} (d : Command) → step_at width s p ≡ stand d p → call_at width s p d ≡ none → call_at width s p (step_at width s p).command ≡ some c → ⊥
  no_call d h f e = let g : call_at width s p (step_at width s p).command ≡ none = rw h f in none_some (sym g ∙ e)

  -- a command that makes a call lies whole there
  pub call_whole : {c : Call} → call_at width s p (step_at width s p).command ≡ some c → Reading width s p
  call_whole e = by_cases (dec_le (length s) p)
      (λ l. absurd (no_call Over (step_over l) refl e))
      (λ l. by_cases (ℕ_discrete (size_of width (at s p)) 0)
      (λ f. absurd (no_call Unknown (step_unknown (omega arith) f) refl e))
      (λ f. by_cases (dec_lt (length s - p) (size_of width (at s p)))
      (λ g. absurd (no_call Cut (step_cut (omega arith) f g) refl e))
      (λ g. record { inside = omega arith; known = omega arith; whole = omega arith })))

  -- so the next position is behind this one
  pub call_next : {c : Call} → call_at width s p (step_at width s p).command ≡ some c → p < (step_at width s p).next
  call_next e = let r = call_whole e in rw (step_whole r) (omega (arith, r.known))

  -- and not behind the end
  pub call_inside : {c : Call} → call_at width s p (step_at width s p).command ≡ some c → (step_at width s p).next ≤ length s
  call_inside e = let r = call_whole e in rw (step_whole r) r.whole

  -- something stands only before the end
  pub not_over : {d : Command} → (step_at width s p).command ≡ d → stands d ≡ true → p < length s
  not_over e f = by_cases (dec_le (length s) p)
      (λ l. absurd (false≢true (ap (λ (x : Step). stands x.command) (sym (step_over l)) ∙ ap stands e ∙ f)))
      (λ l. omega arith)

  -- the number is that of what stands there
  pub step_number : (step_at width s p).number ≡ verdict_number (refusal_of (step_at width s p).command)
  unfolding step_at
  step_number = go (leb (length s) p) (eqb (size_of width (at s p)) 0) (ltb (length s - p) (size_of width (at s p)))
    where
      go : (a b c : Bool) → (let x = cond a (stand Over p) (cond b (stand Unknown p) (cond c (stand Cut p) (stand (command_of s p (at s p)) (p + size_of width (at s p))))) in x.number ≡ verdict_number (refusal_of x.command))
      go true b c = refl
      go false true c = refl
      go false false true = refl
      go false false false = refl

  -- what holds of each command of a known kind
  of_known : (P : Command → Type 0) (kind : ℕ) → ((a b : ℕ) → P (Snapshot a b)) → ((a b : ℕ) → P (Read a b)) → (kind ≡ 3 → (a b : ℕ) → P (Write a b)) → ((a : ℕ) → P (Delete a)) → P Count → P (command_of s p kind)
  unfolding command_of
  of_known P kind f g h k l = go (eqb kind 1) (eqb kind 2) (eqb kind 3) (eqb kind 4) (eqb-true kind 3)
    where
      go : (a b c d : Bool) → (c ≡ true → kind ≡ 3) → P (cond a (Snapshot (pair_at s (p + 1)) (pair_at s (p + 3))) (cond b (Read (pair_at s (p + 1)) (pair_at s (p + 3))) (cond c (Write (pair_at s (p + 1)) (pair_at s (p + 3))) (cond d (Delete (pair_at s (p + 1))) Count))))
      go true b c d t = f _ _
      go false true c d t = g _ _
      go false false true d t = h (t refl) _ _
      go false false false true t = k _
      go false false false false t = l

  -- and its number is 0
  pub known_number : (kind : ℕ) → verdict_number (refusal_of (command_of s p kind)) ≡ 0
  known_number kind = of_known (λ c. verdict_number (refusal_of c) ≡ 0) kind (λ a b. refl) (λ a b. refl) (λ t a b. refl) (λ a. refl) refl

  -- only a write has the kind 3
  kind_three : (kind : ℕ) → kind_of (command_of s p kind) ≡ 3 → kind ≡ 3
  kind_three kind = of_known (λ c. kind_of c ≡ 3 → kind ≡ 3) kind (λ a b e. absurd (omega (arith, e))) (λ a b e. absurd (omega (arith, e))) (λ t a b e. t) (λ a e. absurd (omega (arith, e))) (λ e. absurd (omega (arith, e)))

  -- and its row lies inside the stream
  pub write_inside : {tag row : ℕ} → (step_at width s p).command ≡ Write tag row → (p + 5) + width ≤ length s
  write_inside {tag} {row} e =
      let h : call_at width s p (step_at width s p).command ≡ some (one (write tag row (row_at width s p))) = rw e in
      let r = call_whole h in
      let c : command_of s p (at s p) ≡ Write tag row = sym (ap (λ (x : Step). x.command) (step_whole r)) ∙ e in
      let k = kind_three (at s p) (rw c) in
      omega (arith, r.whole, size_three width (at s p) k)
