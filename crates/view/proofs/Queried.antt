-- Read and count on a store are steps of its view: they answer as the place map does, and change nothing. Assumes nothing.
use Rattle.std.specs.Prelude.{◌≡◌, refl, List, ℕ, length}
use Rattle.std.proofs.Math.Path.{sym}
use Rattle.std.proofs.Common.{◌∙◌, ap, ap₂, eq-eqb}
use Rattle.std.proofs.Math.Option.{Option, none, some}
use Rattle.basics.specs.Decide.{not_no}
use Rattle.records.specs.Records.{Records}
use Rattle.counting.specs.Counting.{count_answer}
use Rattle.reads.specs.Reads.{read_tests, row_of_tag, sharers_of_tag, read_answer}
use Rattle.model.specs.Call.{read, count}
use Rattle.answers.specs.declared.Refusal.{Refusal}
use Rattle.answers.specs.declared.Refusal.TheVariants.{BadLength}
use Rattle.answers.specs.Answers.{row, counts, refused_of}
use Rattle.model.specs.Model.{tests, accepted}
use Rattle.answers.specs.Tests.{refusal, unless}
use Rattle.answers.proofs.Laws.{unless_same, refusal_next}
use Rattle.copies.specs.Copies.{sharers}
use Rattle.maps.specs.Map.{Alike}
use Rattle.agreement.specs.Agree.{RowMap, Effect, map_verdict, map_answer, Step}
use Rattle.agreement.specs.Verdicts.{read_passed}
use Rattle.view.specs.View.{view, Store}
use Rattle.view.proofs.Sharers.{view_sharers}
use Rattle.view.proofs.Viewed.{view_alive, view_snapshots, view_used}

alike_self : (n : ℕ) (m : RowMap) → Alike n m m
alike_self n m = record { tags = λ t. refl; place = λ c l. refl; content = λ c l. refl }

-- refused or not, nothing changes
either_way : {A : Type 0} (v : Option Refusal) → A → unless v (λ r. A) A
either_way none a = a
either_way (some r) a = a

module _ (z : Records) (places : List ℕ) (st : Store z places) where
  -- with places of the right length the tests of read are the map's
  read_verdict : (tag r : ℕ) → refusal (read_tests z (length places) tag r) ≡ map_verdict z.size (view z places) (read tag r)
  unfolding read_tests map_verdict tests
  read_verdict tag r = refusal_next BadLength _ (not_no (eq-eqb _ _ st.size)) ∙ rw (view_alive z st.sound places tag)

  -- an accepted read's number is the map's
  read_sharers : (tag r : ℕ) → map_verdict z.size (view z places) (read tag r) ≡ none → sharers_of_tag z tag r ≡ sharers (view z places).tags (view z places).place tag r
  unfolding map_verdict
  read_sharers tag r e =
      let (l, m) = read_passed z.size (view z places).tags (view z places).place (λ d. (view z places).content ((view z places).place d)) tag r e in
      sym (view_sharers z st.sound places tag r (sym (view_alive z st.sound places tag) ∙ l))

pub read_step : (z : Records) (places : List ℕ) → Store z places → (tag r : ℕ) → Step z.size (view z places) (read tag r) (read_answer z places tag r) (view z places)
unfolding read_answer map_answer accepted row_of_tag view Effect
read_step z places st tag r = record {
  says = rw (read_verdict z places st tag r) (unless_same (map_verdict z.size (view z places) (read tag r)) (refused_of 1) (λ e. ap (row ((view z places).content ((view z places).place (tag, r)))) (read_sharers z places st tag r e)));
  goes = either_way (map_verdict z.size (view z places) (read tag r)) (alike_self z.size.rows (view z places));
}

pub count_step : (z : Records) (places : List ℕ) → Store z places → Step z.size (view z places) count (count_answer z) (view z places)
unfolding map_answer map_verdict tests accepted refusal Effect
count_step z places st = record {
  says = ap₂ counts (sym (view_used z st.sound places)) (sym (view_snapshots z st.sound places));
  goes = alike_self z.size.rows (view z places);
}
