-- Laws of going up by the notes: it gives what going up through the table gives. Assumes nothing.
use Rattle.std.specs.Prelude.{◌≡◌, ◌≢◌, List, ℕ, ◌+◌, ◌-◌, ◌≤◌, ◌<◌}
use Rattle.std.proofs.Math.Path.{refl, sym, ap}
use Rattle.std.proofs.Common.{◌∙◌}
use Rattle.std.proofs.Math.Option.{Option, none, some}
use native.Mathlib.Omega.{arith}
use Rattle.basics.specs.Decide.{at}
use Rattle.trees.specs.declared.Tree.{Tree}
use Rattle.trees.specs.Trees.{Table, InUse, up}
use Rattle.trees.specs.Reading.{entry, climb, place}
use Rattle.reading.specs.Reads.{climb_root, climb_own, climb_up}
use Rattle.notes.specs.Notes.{note_of, Noted, Climbed}
use Rattle.notes.proofs.Making.{note_none, note_some, no_note}

-- what n reads is what m reads with the steps that are left, in every table whose notes these are
pub record Rising (t : Tree) (notes : List ℕ) (n r m k : ℕ) : Type 0 where
  pub most : k ≤ 128
  pub used : InUse t m
  pub reads : (e : Table) → Noted e r notes → place t e n r ≡ climb t e r (128 - k) m

module _ (t : Tree) (notes : List ℕ) (n r : ℕ) where
  pub rise_start : InUse t n → Rising t notes n r n 0
  unfolding place
  rise_start u = record { most = omega arith; used = u; reads = λ e h. refl }

  pub rise_root : {m k p : ℕ} → Rising t notes n r m k → m ≡ 0 → p ≡ r → Climbed t notes n r p
  rise_root {m} {k} h z x e d = x ∙ sym (h.reads e d ∙ climb_root t e r (128 - k) m z)

  left : (k : ℕ) → k < 128 → 128 - k ≡ (128 - (k + 1)) + 1
  left k l = omega arith

  pub rise_own : {m k p : ℕ} → k < 128 → Rising t notes n r m k → m ≢ 0 → at notes m ≢ 0 → p + 1 ≡ at notes m → Climbed t notes n r p
  rise_own {m} {k} {p} l h z f x e d = go (entry e m r) refl (d m h.used.0)
    where
      go : (o : Option ℕ) → entry e m r ≡ o → at notes m ≡ note_of e.rows (entry e m r) → p ≡ place t e n r
      go (some i) y w =
          let v : at notes m ≡ e.rows + i + 1 = w ∙ ap (note_of e.rows) y ∙ note_some e.rows i in
          let u : climb t e r (128 - k) m ≡ e.rows + i = rw (left k l) (climb_own t e r (128 - (k + 1)) m i z y) in
          omega (arith, v, h.reads e d, u)
      go none y w = absurd (f (w ∙ ap (note_of e.rows) y ∙ note_none e.rows))

  pub rise_up : {m k : ℕ} → k < 128 → Rising t notes n r m k → m ≢ 0 → at notes m ≡ 0 → InUse t (up t m) → Rising t notes n r (up t m) (k + 1)
  rise_up {m} {k} l h z f u = record {
    most = omega arith;
    used = u;
    reads = λ e d. h.reads e d ∙ rw (left k l) (climb_up t e r (128 - (k + 1)) m z (no_note e.rows (entry e m r) (sym (d m h.used.0) ∙ f)));
  }

  pub rise_over : {m k p : ℕ} → 128 ≤ k → Rising t notes n r m k → p ≡ r → Climbed t notes n r p
  unfolding climb
  rise_over {m} {k} l h x e d =
      let z : 128 - k ≡ 0 = omega arith in
      x ∙ sym (h.reads e d ∙ ap (λ (j : ℕ). climb t e r j m) z)
