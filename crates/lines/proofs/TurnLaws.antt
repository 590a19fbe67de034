-- The lines of a stream, one command at a time. Assumes nothing.
use Rattle.std.specs.Prelude.{◌≡◌, Bool, true, false, List, [], ◌∷◌, ◌++◌}
use Rattle.std.proofs.Math.Path.{refl, sym, ap}
use Rattle.std.proofs.Common.{◌∙◌, append_assoc, append-nil}
use Rattle.std.proofs.lemmas.Bool.{false≢true}
use Rattle.std.proofs.Math.Option.{none, some}
use Prim.Native.Nat.{ℕ, zero, suc, ◌+◌, ◌*◌, ◌≤◌}
use Rattle.std.proofs.Math.Nat.{mul-suc, mul-le-mul_left}
use native.Mathlib.Omega.{arith}
use Rattle.std.proofs.Math.ListN.{length}
use Rattle.measures.specs.declared.Size.{Size}
use Rattle.records.specs.Records.{Records}
use Rattle.answers.specs.declared.Refusal.{Refusal}
use Rattle.answers.specs.Answers.{Answer, refused, number}
use Rattle.answers.proofs.Laws.{number_some}
use Rattle.model.specs.Call.{Call}
use Rattle.model.specs.Model.{Model, answers, final, reply, next as model_after}
use Rattle.steps.specs.Calls.{Runs}
use Rattle.theorem.specs.Trace.{State, state, CallEnds, left_by}
use Rattle.theorem.proofs.Theorem.{one_call}
use Rattle.theorem.proofs.Leaving.{call_leaves}
use Rattle.text.specs.Text.{line, dash, shown, answer_line}
use Rattle.text.specs.Laws.{shown_refused, answer_line_lem, line_most}
use Rattle.laying.specs.Laid.{Lays}
use Rattle.laying.specs.Laws.{lays_as, lays_none}
use Rattle.commands.specs.declared.Command.{Command}
use Rattle.commands.specs.declared.Step.{Step}
use Rattle.commands.specs.declared.Command.TheVariants.{Over, Write}
use Rattle.commands.specs.Format.{refusal_of, changes, step_at, call_at, calls_from, end_from}
use Rattle.commands.specs.Laws.{stands, step_over, call_next, call_inside, not_over, step_number, write_inside}
use Rattle.lines.specs.Lines.{numbered, end_line, text_from}
use Rattle.progress.specs.Replying.{Progress, line_room, records_in, stopped, Room, Answered, Stopped}
use Rattle.lines.specs.Turns.{Ready, Onward, Turned}

-- The calls from a position on: one and the rest, or none

module _ (width : ℕ) (s : List ℕ) (p : ℕ) where
  calls_call : (n : ℕ) {c : Call} {next : ℕ} → call_at width s p (step_at width s p).command ≡ some c → (step_at width s p).next ≡ next → calls_from width s (suc n) p ≡ c ∷ calls_from width s n next
  unfolding calls_from
  calls_call n e f = rw (e, f)

  end_call : (n : ℕ) {c : Call} {next : ℕ} → call_at width s p (step_at width s p).command ≡ some c → (step_at width s p).next ≡ next → end_from width s (suc n) p ≡ end_from width s n next
  unfolding end_from
  end_call n e f = rw (e, f)

  calls_none : (n : ℕ) → call_at width s p (step_at width s p).command ≡ none → calls_from width s n p ≡ []
  unfolding calls_from
  calls_none zero e = refl
  calls_none (suc n) e = rw e

  end_none : (n : ℕ) → length s ≤ p + n → call_at width s p (step_at width s p).command ≡ none → end_from width s n p ≡ (step_at width s p).command
  unfolding end_from
  end_none zero l e = rw (step_over width s p (omega (arith, l)))
  end_none (suc n) l e = rw e

module _ (z : Size) (s : List ℕ) where
  text_call : (n k : ℕ) (m : Model) (p next : ℕ) (c : Call) → call_at z.width s p (step_at z.width s p).command ≡ some c → (step_at z.width s p).next ≡ next
      → text_from z s (suc n) k m p ≡ answer_line k (reply z m c) ++ text_from z s n (k + 1) (model_after z m c) next
  unfolding text_from numbered answers
  text_call n k m p next c e f =
      let a : k + suc (length (calls_from z.width s n next)) ≡ (k + 1) + length (calls_from z.width s n next) = omega arith in
      let b : suc k ≡ k + 1 = omega arith in
      rw (calls_call z.width s p n e f, end_call z.width s p n e f, a, b)
      (append_assoc (answer_line k (reply z m c)) (numbered (k + 1) (answers z (model_after z m c) (calls_from z.width s n next))) _)

  -- at the end there is no line but the refusal's, and no call
  text_end : (n k : ℕ) (m : Model) (p : ℕ) {d : Command} → length s ≤ p + n → (step_at z.width s p).command ≡ d → call_at z.width s p d ≡ none → text_from z s n k m p ≡ end_line k (refusal_of d)
  unfolding text_from numbered answers
  text_end n k m p l e f =
      let g = rw (sym e) at f in
      let a : k + 0 ≡ k = omega arith in
      rw (calls_none z.width s p n g, end_none z.width s p n l g, e, a)

  pub text_none : (k : ℕ) (m : Model) (p : ℕ) → text_from z s 0 k m p ≡ []
  unfolding text_from calls_from end_from numbered answers end_line
  text_none k m p = refl

  pub text_over : (n k : ℕ) (m : Model) → text_from z s n k m (length s) ≡ []
  unfolding end_line
  text_over n k m = let o = step_over z.width s (length s) (omega arith) in text_end n k m (length s) (omega arith) (ap (λ (x : Step). x.command) o) refl

  calls_over : (n : ℕ) → calls_from z.width s n (length s) ≡ []
  calls_over n = let o = step_over z.width s (length s) (omega arith) in calls_none z.width s (length s) n (rw o)

  pub final_over : (n : ℕ) (m : Model) → final z m (calls_from z.width s n (length s)) ≡ m
  unfolding final
  final_over n m = rw (calls_over n)

  pub left_over : (n : ℕ) (u : State) → left_by u (calls_from z.width s n (length s)) ≡ u
  unfolding left_by
  left_over n u = rw (calls_over n)

-- What is left of a stream, behind a call and at the end

module _ (z : Records) (places s : List ℕ) (p k : ℕ) (m : Model) where
  abbrev w : ℕ
  w = z.size.width

  after_call : {c : Call} {h : Answer} {z' : Records} {places' : List ℕ} → call_at w s p (step_at w s p).command ≡ some c → Runs z places m → CallEnds z places c h (state z' places')
      → (n : ℕ) → length s ≤ p + n → Onward z places s p k m (answer_line k (reply z.size m c)) z' places' (step_at w s p).next (k + 1) (model_after z.size m c) n
  unfolding final left_by
  after_call e run ends zero l = absurd (omega (arith, l, call_next w s p e, call_inside w s p e))
  after_call {c} e run ends (suc n) l =
      let f = calls_call w s p n e refl in
      record {
        left = n;
        enough = omega (arith, l, call_next w s p e);
        says = text_call z.size s n k m p _ c e refl;
        lasts = rw f;
        leaves = rw (f, call_leaves run.store.sound ends);
      }

  at_end : {d : Command} {text : List ℕ} {k' : ℕ} → (step_at w s p).command ≡ d → call_at w s p d ≡ none → end_line k (refusal_of d) ≡ text
      → (n : ℕ) → length s ≤ p + n → Onward z places s p k m text z places (length s) k' m n
  unfolding final left_by calls_from
  at_end {text = text} {k' = k'} e f t n l =
      let g = calls_none w s p n (rw (sym e) at f) in
      record {
        left = 0;
        enough = omega arith;
        says = text_end z.size s n k m p l e f ∙ t ∙ sym (rw (text_none z.size s k' m (length s)) (append-nil text));
        lasts = rw g;
        leaves = rw g;
      }

-- A turn that made a call, and one at the end

abbrev wide : Progress → ℕ
wide run = run.size.width

module _ {run : Progress} {node row places s : List ℕ} {p : ℕ} {out : List ℕ} where
  pub turn_call : {c : Call} {r : Progress} {node' row' places' out' : List ℕ} → call_at (wide run) s p (step_at (wide run) s p).command ≡ some c → Answered run node row places c out r node' row' places' out'
      → Turned run node row places s p out r node' row' places' out' (step_at (wide run) s p).next
  turn_call {c} e a =
      let y = a.replied in
      let h = y.hands in
      let l = call_next (wide run) s p e in
      rw a.goes (record {
        sized = refl;
        long = y.lays.size;
        moves = λ g. (l, call_inside (wide run) s p e);
        ahead = omega (arith, l);
        short = omega (arith, y.lays.ends, y.short, line_most run.line h.number (shown h), mul-suc (line_room (wide run)) p, mul-le-mul_left (line_room (wide run)) l);
        few = omega (arith, l);
        serves = λ m u.
            let (g, i, next) = one_call u y.ends in
            record {
              model = model_after run.size m c;
              runs = next;
              text = answer_line run.line (reply run.size m c);
              lays = lays_as (answer_line_lem run.line g) y.lays;
              rest = after_call (records_in run node row) places s p run.line m e u y.ends;
            };
      })

  -- the same, from what was found
  pub turn_step : {st : Step} {c : Call} {r : Progress} {node' row' places' out' : List ℕ} (d : Command) → st ≡ step_at (wide run) s p → st.command ≡ d → call_at (wide run) s p d ≡ some c
      → Answered run node row places c out r node' row' places' out' → Turned run node row places s p out r node' row' places' out' st.next
  turn_step {st} d e g h a = rw e (turn_call (rw (sym e, g) h) a)

  turn_end : {next end : ℕ} {text out' : List ℕ} {d : Command} → (step_at (wide run) s p).command ≡ d → call_at (wide run) s p d ≡ none → p ≤ length s → end_line run.line (refusal_of d) ≡ text
      → length text + line_room (wide run) * p ≤ line_room (wide run) * length s → Lays out run.end text out' end
      → Turned run node row places s p out (stopped run end) node row places out' next
  turn_end e f l t b y = record {
    sized = refl;
    long = y.size;
    moves = λ g. absurd (false≢true g);
    ahead = l;
    short = omega (arith, y.ends, b);
    few = omega (arith, l);
    serves = λ m u. record {
      model = m;
      runs = u;
      text = _;
      lays = y;
      rest = at_end (records_in run node row) places s p run.line m e f t;
    };
  }

  -- an unknown kind, or a command that is cut, gets the line of its refusal
  pub turn_stop : {st : Step} {x : Refusal} {r : Progress} {out' : List ℕ} (d : Command) → st ≡ step_at (wide run) s p → st.command ≡ d → call_at (wide run) s p d ≡ none → refusal_of d ≡ some x → stands d ≡ true
      → Stopped run st.number out r out' → Turned run node row places s p out r node row places out' st.next
  unfolding end_line answer_line
  turn_stop {st} {x} d e g f v o a =
      let c : (step_at (wide run) s p).command ≡ d = ap (λ (y : Step). y.command) (sym e) ∙ g in
      let l = not_over (wide run) s p c o in
      let n : st.number ≡ number x = rw e (step_number (wide run) s p ∙ rw (c, v)) in
      let t : end_line run.line (refusal_of d) ≡ line run.line st.number dash = rw (v, n) (ap (line run.line (number x)) (shown_refused (refused x) (number_some x))) in
      rw a.goes (turn_end c f (omega (arith, l)) t (omega (arith, line_most run.line st.number dash, mul-suc (line_room (wide run)) p, mul-le-mul_left (line_room (wide run)) l)) a.lays)

  -- the end of the stream gets none
  pub turn_over : {st : Step} {r : Progress} → st ≡ step_at (wide run) s p → st.command ≡ Over → p ≤ length s → run.end ≤ length out → r ≡ stopped run run.end
      → Turned run node row places s p out r node row places out st.next
  unfolding end_line
  turn_over e g l b a =
      let c = ap (λ (y : Step). y.command) (sym e) ∙ g in
      rw a (turn_end c refl l refl (omega (arith, mul-le-mul_left (line_room (wide run)) l)) (lays_none out run.end b))

-- What is ready has room for a line, and a write's row lies inside the stream

module _ {run : Progress} {st : Step} {s : List ℕ} {p : ℕ} {out : List ℕ} (y : Ready run st s p out) where
  found : {d : Command} → st.command ≡ d → (step_at (wide run) s p).command ≡ d
  found e = ap (λ (x : Step). x.command) (sym y.stands) ∙ e

  pub ready_room : (n : ℕ) {d : Command} → st.command ≡ d → stands d ≡ true → n ≤ line_room (wide run) → Room run n out
  ready_room n e o l = let h = y.room (not_over (wide run) s p (found e) o) in record { fits = omega (arith, h.fits, l); few = h.few }

  pub ready_write : {tag q : ℕ} → st.command ≡ Write tag q → (p + 5) + wide run ≤ length s
  ready_write e = write_inside (wide run) s p (found e)

-- what stands there and changes nothing is not what changes something
pub no_change : {A : Type 0} {c : Command} (d : Command) → c ≡ d → changes d ≡ false → changes c ≡ true → A
no_change d e f g = absurd (false≢true (sym f ∙ ap changes (sym e) ∙ g))

pub a_change : {A : Type 0} {b : Bool} {c : Command} (d : Command) → c ≡ d → changes d ≡ true → b ≡ changes c → b ≡ false → A
a_change d e f g h = absurd (false≢true (sym h ∙ g ∙ ap changes e ∙ f))
