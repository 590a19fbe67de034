-- What an accepted write has passed. Assumes nothing.
use Rattle.std.specs.Prelude.{◌≡◌, ◌⊎◌, Bool, ◌&&◌, ℕ, ◌*◌, ◌<◌, eqb}
use Rattle.std.proofs.Math.Path.{refl}
use Rattle.std.proofs.Common.{sym, ◌∙◌}
use Rattle.std.proofs.Math.Logic.{inl, inr}
use Rattle.std.proofs.Math.Bool.{true, false, not}
use mathlib.Core.List.{List, []}
use Rattle.std.proofs.Math.Option.{none, some}
use Rattle.std.proofs.Math.Dec.{leb}
use Rattle.std.proofs.Math.ListN.{length}
use borrow.Author.Tests.{eqb-true, leb-false, not-false}
use Rattle.records.specs.Records.{Records, table, lives}
use Rattle.trees.specs.Trees.{used, version}
use Rattle.answers.specs.declared.Refusal.TheVariants.{BadLength, BadRow, UnknownTag, PlacesFull}
use Rattle.answers.proofs.Laws.{refusal_passed}
use Rattle.edits.proofs.Solve.{lives_node}
use Rattle.sharing.specs.Sharing.{shared_at}
use Rattle.writes.specs.Touching.{untouched_at, room_test}
use Rattle.writes.proofs.TouchingLaws.{last_yes}
use Rattle.writes.specs.Writing.{write_tests, write_verdict}

pub record Allowed (z : Records) (tag r : ℕ) (bs : List ℕ) (v : ℕ) : Type 0 where
  pub width : length bs ≡ z.size.width
  pub low : r < z.size.rows
  pub stands : version z.tree tag ≡ some v
  pub room : shared_at z.tree (table z) v r ≡ true → used (table z) < z.size.places

module _ (z : Records) (places : List ℕ) (tag r : ℕ) (bs : List ℕ) where
  -- an accepted write finds its row as it is to be, or there is room for it
  pub write_allowed : write_verdict z places tag r bs ≡ none
      → (v : ℕ) × (version z.tree tag ≡ some v) × ((untouched_at z places r bs v ≡ true) ⊎ (untouched_at z places r bs v ≡ false) × Allowed z tag r bs v)
  unfolding write_verdict write_tests room_test
  write_allowed e =
      let (a, e₁) = refusal_passed (not (eqb (length places) (z.size.places * z.size.width))) BadLength _ e in
      let (b, e₂) = refusal_passed (not (eqb (length bs) z.size.width)) BadLength _ e₁ in
      let (c, e₃) = refusal_passed (leb z.size.rows r) BadRow _ e₂ in
      let (d, e₄) = refusal_passed (not (lives z tag)) UnknownTag _ e₃ in
      let (v, h, x, g) = lives_node z tag (not-false _ d) in
      let (f, e₅) = refusal_passed (shared_at z.tree (table z) v r && leb z.size.places (used (table z)) && not (untouched_at z places r bs v)) PlacesFull [] (rw h at e₄) in
      (v, h, either v (untouched_at z places r bs v) refl f h (eqb-true _ _ (not-false _ b)) (leb-false _ _ c))
    where
      either : (v : ℕ) (u : Bool) → untouched_at z places r bs v ≡ u → (shared_at z.tree (table z) v r && leb z.size.places (used (table z)) && not (untouched_at z places r bs v)) ≡ false
          → version z.tree tag ≡ some v → length bs ≡ z.size.width → r < z.size.rows
          → (untouched_at z places r bs v ≡ true) ⊎ (untouched_at z places r bs v ≡ false) × Allowed z tag r bs v
      either v true t f h w l = inl t
      either v false t f h w l = inr (t, record { width = w; low = l; stands = h; room = λ k. leb-false _ _ (sym (last_yes _) ∙ (rw (k, t) at f)) })
