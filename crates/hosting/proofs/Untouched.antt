-- A write from C of the bytes that the version reads there is accepted, and leaves every byte of what was lent; so does a border that did no row, as one does that is refused before its rows. Assumes nothing.
use Rattle.std.proofs.Math.Path.{◌≡◌, refl, ap}
use Rattle.std.proofs.Common.{sym, ◌∙◌, eq-eqb}
use Rattle.std.specs.Prelude.{◌≢◌, true, length}
use mathlib.Core.List.{List, [], ◌∷◌}
use Rattle.std.proofs.Math.Option.{Option, none, some}
use Prim.Native.Nat.{ℕ, ◌<◌}
use Rattle.basics.specs.Decide.{at}
use Rattle.records.specs.Records.{lives}
use Rattle.records.specs.Sound.{Sound}
use Rattle.answers.specs.declared.Refusal.{Refusal}
use Rattle.answers.specs.Answers.{Answer}
use Rattle.answers.specs.Tests.{unless}
use Rattle.soundness.specs.Judged.{Leaves, judged_sound}
use Rattle.reads.specs.Reads.{row_of_tag}
use Rattle.owning.specs.Owning.{held}
use Rattle.writes.specs.Writing.{write_verdict, written}
use Rattle.wrote.specs.Wrote.{written_as_read}
use Rattle.borders.specs.Bordering.{bordered}
use Rattle.borders.proofs.BorderingWays.{bordered_none}
use Rattle.view.specs.View.{Store, started}
use Rattle.model.specs.Call as on_store
use Rattle.model.specs.Model.{reply}
use Rattle.theorem.specs.Trace.{over as no_more}
use Rattle.theorem.specs.Borders.{border_early}
use Rattle.theorem.specs.Trace as trace
use Rattle.theorem.proofs.Stores.{write_untouched}
use Rattle.layout.specs.Layout.{loaded, Fits}
use Rattle.host.specs.Host.{Lent}
use Rattle.layout.specs.Back.{stored_loaded}
use Rattle.hosting.specs.Calls.{write, border, host_answer, host_answers}
use Rattle.hosting.specs.Called.{HostCallEnds, write_ends, border_ends, over, then}
use Rattle.hosting.proofs.Guarantee.{loaded_whole, guarantee_sound}

either_way : {A : Type 0} (v : Option Refusal) (x : A) → unless v (λ r. x) x ≡ x
either_way none x = refl
either_way (some r) x = refl

-- bytes of a sound store, each below 256, whatever calls have left them
module _ (b places : List ℕ) (f : Fits b) (low : (i : ℕ) → at b i < 256) (st : Store (loaded b) places) where
  pub host_untouched : {tag r : ℕ} {bs b' places' : List ℕ} {h : Answer} → HostCallEnds b places (write tag r bs) h b' places'
      → length bs ≡ (loaded b).size.width → r < (loaded b).size.rows → lives (loaded b) tag ≡ true → bs ≡ row_of_tag (loaded b) places tag r
      → (h.number ≡ 0) × (b' ≡ b) × (places' ≡ places)
  unfolding row_of_tag
  host_untouched (write_ends {tag = tag} {r = r} {number = number} {bs = bs} {b' = b'} {places' = places'} e) long below a same =
      let z = loaded b in
      let l = e.sound f st.sound in
      let v = write_verdict z places tag r bs in
      let got : Leaves v (held z.tree z.node z.row places) (written z places tag r bs) number (unless v (λ x. held z.tree z.node z.row places) (written z places tag r bs)) =
      record { numbered = l.numbered; left = refl } in
      let (n, s) = write_untouched st (loaded_whole b f) no_more (trace.write_ends (judged_sound st.sound got)) long below a same in
      let left : ◌≡◌ {A = List ℕ × List ℕ} (b', places') (b, places) = l.left ∙ rw (written_as_read z places tag r bs same, stored_loaded b f low) (either_way v (b, places)) in
      (n, ap (λ (p : List ℕ × List ℕ). p.0) left, ap (λ (p : List ℕ × List ℕ). p.1) left)

-- of a border, whatever ended it
pub host_none : {b places : List ℕ} {tag : ℕ} {rows bytes b' places' : List ℕ} {h : Answer} → Fits b → Sound (loaded b) → HostCallEnds b places (border tag rows bytes) h b' places' → h.numbers ≡ 0 ∷ []
    → (b' ≡ b) × (places' ≡ places)
host_none {b} {places} {tag} {rows} {bytes} {b'} {places'} f s (border_ends {done = done} e) none_done =
    let l = e.sound f s in
    let n : (bordered (loaded b) places tag rows bytes).done ≡ 0 = sym l.counted ∙ ap (λ (ns : List ℕ). at ns 0) none_done in
    let kept : ◌≡◌ {A = Lent} (b', places') (b, places) = l.left ∙ rw (eq-eqb _ 0 n, bordered_none (loaded b) places tag rows bytes n) in
    (ap (λ (p : Lent). p.0) kept, ap (λ (p : Lent). p.1) kept)

-- with any refusal but 3 and 24, which are those of a row, it did none
pub host_early : {b places : List ℕ} {tag : ℕ} {rows bytes b' places' : List ℕ} {h : Answer} → Fits b → Store (loaded b) places → HostCallEnds b places (border tag rows bytes) h b' places'
    → h.number ≢ 0 → h.number ≢ 3 → h.number ≢ 24 → (h.numbers ≡ 0 ∷ []) × (b' ≡ b) × (places' ≡ places)
unfolding host_answer host_answers
host_early {b} {places} {tag} {rows} {bytes} {h = h} f st k =
    let z = loaded b in
    let e = (guarantee_sound b places f st (then k over)).0 in
    let told : h ≡ reply z.size (started z places) (on_store.border tag rows bytes) = cc in
    let none_done : h.number ≢ 0 → h.number ≢ 3 → h.number ≢ 24 → h.numbers ≡ 0 ∷ [] = rw told (border_early z.size (started z places) tag rows bytes) in
    λ o p q. let n = none_done o p q in let (x, y) = host_none f st.sound k n in (n, x, y)
