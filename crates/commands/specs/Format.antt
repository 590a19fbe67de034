-- The commands of a stream (SPEC 9.1): what stands at a position. Definitions only. Assumes nothing.
use Rattle.std.specs.Prelude.{Bool, true, false, cond, List, [], ◌∷◌, ℕ, zero, suc, ◌+◌, ◌-◌, ◌≤◌, ◌<◌, eqb, leb, ltb, length, take, drop}
use Rattle.std.proofs.Math.Option.{Option, none, some}
use Rattle.basics.specs.Decide.{at}
use Rattle.laying.specs.Laid.{pair_at}
use Rattle.answers.specs.declared.Refusal.{Refusal}
use Rattle.answers.specs.declared.Refusal.TheVariants.{UnknownCommand, CutCommand}
use Rattle.answers.specs.Tests.{verdict_number}
use Rattle.model.specs.Call.{snapshot, read, write, delete, count, Call, one}
use Rattle.commands.specs.declared.Command.{Command}
use Rattle.commands.specs.declared.Command.TheVariants.{Over, Unknown, Cut, Snapshot, Read, Write, Delete, Count}
use Rattle.commands.specs.declared.Step.{Step}

-- how many bytes a command of a kind has, where a row has `width`; 0 if the kind is unknown
unfoldable pub size_of : ℕ → ℕ → ℕ
size_of width kind =
    cond (eqb kind 1) 5
    (cond (eqb kind 2) 5
    (cond (eqb kind 3) (5 + width)
    (cond (eqb kind 4) 3
    (cond (eqb kind 5) 1
    0))))

-- a command of a known kind at p
unfoldable pub command_of : List ℕ → ℕ → ℕ → Command
command_of s p kind =
    cond (eqb kind 1) (Snapshot (pair_at s (p + 1)) (pair_at s (p + 3)))
    (cond (eqb kind 2) (Read (pair_at s (p + 1)) (pair_at s (p + 3)))
    (cond (eqb kind 3) (Write (pair_at s (p + 1)) (pair_at s (p + 3)))
    (cond (eqb kind 4) (Delete (pair_at s (p + 1)))
    Count)))

-- the refusal with which a stream ends there: an unknown kind, or a command that is cut
abbrev pub refusal_of : Command → Option Refusal
refusal_of Over = none
refusal_of Unknown = some UnknownCommand
refusal_of Cut = some CutCommand
refusal_of (Snapshot source tag) = none
refusal_of (Read tag row) = none
refusal_of (Write tag row) = none
refusal_of (Delete tag) = none
refusal_of Count = none

-- a command whose call can change the store
abbrev pub changes : Command → Bool
changes Over = false
changes Unknown = false
changes Cut = false
changes (Snapshot source tag) = true
changes (Read tag row) = false
changes (Write tag row) = true
changes (Delete tag) = true
changes Count = false

-- a command, the position behind it, and the number of that refusal, 0 if there is none
abbrev pub stand : Command → ℕ → Step
stand c next = record { command = c; next = next; number = verdict_number (refusal_of c) }

-- what stands at p, and the position behind it: nothing more; else an unknown kind; else a command that is cut; else a whole one
unfoldable pub step_at : ℕ → List ℕ → ℕ → Step
step_at width s p =
    cond (leb (length s) p) (stand Over p)
    (cond (eqb (size_of width (at s p)) 0) (stand Unknown p)
    (cond (ltb (length s - p) (size_of width (at s p))) (stand Cut p)
    (stand (command_of s p (at s p)) (p + size_of width (at s p)))))

-- the row's bytes of a write that stands at p
unfoldable pub row_at : ℕ → List ℕ → ℕ → List ℕ
row_at width s p = take width (drop (p + 5) s)

-- the call that a command at p makes
abbrev pub call_at : ℕ → List ℕ → ℕ → Command → Option Call
call_at width s p Over = none
call_at width s p Unknown = none
call_at width s p Cut = none
call_at width s p (Snapshot source tag) = some (one (snapshot source tag))
call_at width s p (Read tag row) = some (one (read tag row))
call_at width s p (Write tag row) = some (one (write tag row (row_at width s p)))
call_at width s p (Delete tag) = some (one (delete tag))
call_at width s p Count = some (one count)

-- A whole stream, from p on. Every command has a byte at least, so `most` commands are enough where as many bytes are left

abbrev pub calls_by : Option Call → List Call → List Call
calls_by none cs = []
calls_by (some c) cs = c ∷ cs

abbrev pub end_by : Option Call → Command → Command → Command
end_by none here later = here
end_by (some c) here later = later

module _ (width : ℕ) (s : List ℕ) where
  -- the calls that the commands make
  unfoldable pub calls_from : ℕ → ℕ → List Call
  calls_from zero p = []
  calls_from (suc most) p = calls_by (call_at width s p (step_at width s p).command) (calls_from most (step_at width s p).next)

  -- what stands where no further call is made: nothing, an unknown kind or a command that is cut
  unfoldable pub end_from : ℕ → ℕ → Command
  end_from zero p = Over
  end_from (suc most) p = end_by (call_at width s p (step_at width s p).command) (step_at width s p).command (end_from most (step_at width s p).next)

  abbrev pub calls : List Call
  calls = calls_from (length s) 0

  abbrev pub ending : Command
  ending = end_from (length s) 0

-- a command of a known kind lies whole at p
pub record Reading (width : ℕ) (s : List ℕ) (p : ℕ) : Type 0 where
  pub inside : p < length s
  pub known : 0 < size_of width (at s p)
  pub whole : p + size_of width (at s p) ≤ length s
