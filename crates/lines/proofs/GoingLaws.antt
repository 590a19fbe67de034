-- The laws of the loop over a stream: how it begins, what a turn leaves of what is to go, and what there is at the end. Assumes nothing.
use Rattle.std.specs.Prelude.{◌≡◌, refl, Bool, true, false, List, [], ◌++◌, ℕ, ◌+◌, ◌*◌, ◌≤◌, ◌<◌, length}
use Rattle.std.proofs.Common.{sym, ◌∙◌, ap, subst, append_assoc, append-nil, mul-le-mul_left, arith}
use Rattle.std.proofs.Math.Nat as nat
use Rattle.measures.specs.declared.Size.{Size}
use Rattle.records.specs.Records.{Records}
use Rattle.model.specs.Model.{Model}
use Rattle.theorem.specs.Trace.{state, left_by}
use Rattle.laying.specs.Laws.{lays_none, lays_then, lays_as}
use Rattle.commands.specs.declared.Step.{Step}
use Rattle.commands.specs.Format.{step_at, calls_from}
use Rattle.lines.specs.Turns.{Ready, reached, Turned}
use Rattle.progress.specs.Replying.{Progress, line_room, records_in}
use Rattle.lines.proofs.TurnLaws.{text_over, final_over, left_over}
use Rattle.lines.specs.Loop.{Begins, Through, to_go}
use Rattle.lines.specs.Loop as loop

module _ (first : Progress) (node row places s out : List ℕ) where
  abbrev z : Records
  z = records_in first node row

  abbrev w : ℕ
  w = first.size.width

  abbrev Gone : Progress → List ℕ → List ℕ → List ℕ → List ℕ → ℕ → Model → Type 0
  Gone = loop.Gone first node row places s out

  abbrev Going : Progress → List ℕ → List ℕ → List ℕ → List ℕ → ℕ → Type 0
  Going = loop.Going first node row places s out

  pub going_start : {width : ℕ} → Begins width first s out → Going first node row places out (reached s first 0)
  going_start b =
      let (e, l, g) = b.start in
      rw g (record {
        room = omega (arith, e);
        few = omega (arith, l);
        inside = omega arith;
        long = refl;
        same = refl;
        goes = λ m run. record {
          most = length s;
          enough = omega arith;
          model = m;
          runs = run;
          text = [];
          lays = rw e (lays_none out 0 (omega arith));
          says = rw l;
          lasts = refl;
          leaves = refl;
        };
      })

  module _ {run : Progress} {nodeₚ rowₚ placesₚ outₚ : List ℕ} {at : ℕ} (on : run.going ≡ true) (g : Going run nodeₚ rowₚ placesₚ outₚ (reached s run at)) where
    here : reached s run at ≡ at
    here = rw on

    gᵢ : Going run nodeₚ rowₚ placesₚ outₚ at
    gᵢ = rw here at g

    -- the next line has room
    pub going_ready : {width : ℕ} {step : Step} → Begins width first s out → step ≡ step_at width s at → Ready run step s at outₚ
    going_ready {width} b e =
        let same : run.size.width ≡ width = ap (λ (x : Size). x.width) gᵢ.same ∙ b.sized in
        let wide : w ≡ width = b.sized in
        let r : run.end ≤ line_room width * at = rw wide at gᵢ.room in
        record {
          stands = rw same e;
          narrow = rw same b.narrow;
          inside = gᵢ.inside;
          fits = omega (arith, r, gᵢ.long, b.room, mul-le-mul_left (line_room width) gᵢ.inside);
          room = λ l. rw same (record {
            fits = omega (arith, r, gᵢ.long, b.room, nat.mul-suc (line_room width) at, mul-le-mul_left (line_room width) l);
            few = omega (arith, gᵢ.few, l, b.few);
          });
        }

    module _ {r : Progress} {nodeₙ rowₙ placesₙ outₙ : List ℕ} {next : ℕ} (t : Turned run nodeₚ rowₚ placesₚ s at outₚ r nodeₙ rowₙ placesₙ outₙ next) where
      gone_next : {m : Model} → Gone run nodeₚ rowₚ placesₚ outₚ at m → Gone r nodeₙ rowₙ placesₙ outₙ (reached s r next) m
      gone_next {m} v =
          let e = gᵢ.same in
          let q = t.serves v.model v.runs in
          let wide : run.size.width ≡ w = ap (λ (x : Size). x.width) e in
          let o = q.rest v.most v.enough in
          record {
            most = o.left;
            enough = o.enough;
            model = q.model;
            runs = q.runs;
            text = v.text ++ q.text;
            lays = lays_then v.lays q.lays;
            says = v.says ∙ rw (rw e at o.says) (sym (append_assoc v.text q.text _));
            lasts = v.lasts ∙ (rw e at o.lasts);
            leaves = v.leaves ∙ subst (λ (x : ℕ). left_by (state (records_in run nodeₚ rowₚ) placesₚ) (calls_from x s v.most at) ≡ left_by (state (records_in r nodeₙ rowₙ) placesₙ) (calls_from x s o.left (reached s r next))) wide o.leaves;
          }

      ends_inside : (b : Bool) → r.going ≡ b → reached s r next ≤ length s
      ends_inside true e = rw e (t.moves e).1
      ends_inside false e = rw e (omega arith)

      pub going_next : Going r nodeₙ rowₙ placesₙ outₙ (reached s r next)
      going_next =
          let e = ap (λ (x : Size). line_room x.width) gᵢ.same in
          let short : r.end + line_room w * at ≤ run.end + line_room w * reached s r next = rw gᵢ.same at t.short in
          record {
            room = omega (arith, gᵢ.room, short);
            few = omega (arith, gᵢ.few, t.few);
            inside = ends_inside r.going refl;
            long = t.long ∙ gᵢ.long;
            same = t.sized ∙ gᵢ.same;
            goes = λ m u. gone_next (gᵢ.goes m u);
          }

      less : (b : Bool) → r.going ≡ b → to_go s r next < to_go s run at
      less true e = rw (on, e) (omega (arith, (t.moves e).0, (t.moves e).1))
      less false e = rw (on, e) (omega arith)

      pub going_less : to_go s r next < to_go s run at
      going_less = less r.going refl

  pub going_end : {run : Progress} {nodeₚ rowₚ placesₚ outₚ : List ℕ} (at : ℕ) → run.going ≡ false → Going run nodeₚ rowₚ placesₚ outₚ (reached s run at)
      → Through first node row places s out run nodeₚ rowₚ placesₚ outₚ
  going_end {run} {nodeₚ} {rowₚ} {placesₚ} {outₚ} at off g =
      let here : reached s run at ≡ length s = rw off in
      let h = rw here at g in
      record {
        sized = h.same;
        goes = λ m u.
            let v = h.goes m u in
            record {
              lays = lays_as (sym (v.says ∙ rw (text_over first.size s v.most run.line v.model) (append-nil v.text))) v.lays;
              leaves = sym (v.leaves ∙ left_over first.size s v.most _);
              runs = rw (v.lasts ∙ final_over first.size s v.most v.model) v.runs;
            };
      }
