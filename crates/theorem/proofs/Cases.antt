-- The marked cases as one table (SPEC 11.1): an opening and its number, then calls and what each hands out. One theorem runs down it by evaluation
-- of the reference model, and one carries each line to every store, through the promises of the opening and of the calls. Assumes nothing.
use Rattle.std.specs.Prelude.{◌≡◌, refl, List, [], ◌∷◌, ◌++◌, map, ℕ, length, replicate}
use Rattle.std.proofs.Common.{sym, ◌∙◌, arith}
use Rattle.measures.specs.declared.Size.{Size}
use Rattle.measures.specs.Measures.{rows_with}
use Rattle.trees.specs.declared.Tree.{Tree}
use Rattle.records.specs.Records.{records_of}
use Rattle.answers.specs.Answers.{Answer, handed}
use Rattle.answers.specs.InOrder.{in_order}
use Rattle.answers.specs.Tests.{refusal, verdict_number, in_measure, open_tests}
use Rattle.answers.proofs.Laws.{verdict_none}
use Rattle.basics.specs.Equal.{equal}
use Rattle.model.specs.Call.{Single, snapshot, read, write, delete, count, Call, one, border}
use Rattle.copies.specs.Copies.{any, only, different, alive, snapshots_alive, shared, sharers, places_used, adopt, put, without}
use Rattle.model.specs.Model.{tests, accepted, effect, opened, verdict, answer, after, border_tests, bordered, reply, next, answers, final}
use Rattle.opening.specs.Opening.{open_verdict, Opening}
use Rattle.theorem.specs.Trace.{State, state, CallEnds, Trace, over}
use Rattle.theorem.proofs.Theorem.{theorem_opened}
use Rattle.theorem.proofs.Stores.{write_untouched}

pub record Case : Type 0 where
  -- the opening: its measures, and how long the lent buffers are: bytes of places, entries of each half of the table, bytes of records from C
  pub size : Size
  pub places : ℕ
  pub entries : ℕ
  pub records : ℕ
  -- the opening's number; the calls on what it left, none if it is refused; and what each hands out
  pub opens : ℕ
  pub calls : List Call
  pub hands : List Answer

-- the model's opening gets the number, and the model hands out what the line says
abbrev pub Meets : Case → Type 0
Meets c =
    (verdict_number (refusal (open_tests c.size c.places c.entries c.entries)) ≡ c.opens)
    × (answers c.size (opened c.size) c.calls ≡ c.hands)

abbrev pub AllMeet : List Case → Type 0
AllMeet [] = Unit {0}
AllMeet (c ∷ cs) = Meets c × AllMeet cs

-- The table

-- an opening of L, B and P that is refused
abbrev turned : ℕ → ℕ → ℕ → ℕ → ℕ → ℕ → ℕ → Case
turned l b p places entries records number = record {
  size = record { rows = l; width = b; places = p };
  places = places;
  entries = entries;
  records = records;
  opens = number;
  calls = [];
  hands = [];
}

-- calls on L = 4, B = 8, P = 6
abbrev usual : Size
usual = record { rows = 4; width = 8; places = 6 }

abbrev calling : List Call → List Answer → Case
calling cs hs = record {
  size = usual;
  places = 48;
  entries = 2;
  records = 524;
  opens = 0;
  calls = cs;
  hands = hs;
}

abbrev on : List Single → List Answer → Case
on cs = calling (map one cs)

abbrev eight : ℕ → List ℕ
eight b = replicate 8 b

-- a number alone; a row that was read, and how many share it; places in use and snapshots alive; a number, and the one beside it: the rows
-- that a border did, or 0 of a read that is refused
abbrev says : ℕ → Answer
says n = handed n [] []

abbrev reads : List ℕ → ℕ → Answer
reads bs n = handed 0 bs (n ∷ [])

abbrev counted : ℕ → ℕ → Answer
counted u a = handed 0 [] (u ∷ a ∷ [])

abbrev ends : ℕ → ℕ → Answer
ends n d = handed n [] (d ∷ [])

-- the rows 0 to 3 of a version, and what is handed out of them
abbrev all : ℕ → List Single
all t = read t 0 ∷ read t 1 ∷ read t 2 ∷ read t 3 ∷ []

abbrev alike : List ℕ → ℕ → List Answer
alike bs n = reads bs n ∷ reads bs n ∷ reads bs n ∷ reads bs n ∷ []

abbrev pub cases : List Case
cases =
    -- L = 0; L = 1025; P = L - 1
    turned 0 8 6 48 6 536 1
    ∷ turned 1025 8 2000 16000 975 3443 1
    ∷ turned 4 8 3 24 0 518 1
    -- after opening: the last row is zero, and there is no row after it
    ∷ on (read 0 3 ∷ []) (reads (eight 0) 1 ∷ [])
    ∷ on (read 0 4 ∷ []) (ends 3 0 ∷ [])
    -- the tags of a snapshot: 0; itself, not alive; itself, alive
    ∷ on (snapshot 0 0 ∷ []) (says 4 ∷ [])
    ∷ on (snapshot 9 9 ∷ []) (says 21 ∷ [])
    ∷ on (snapshot 0 9 ∷ snapshot 9 9 ∷ []) (says 0 ∷ says 22 ∷ [])
    -- a snapshot of a snapshot keeps its rows, and its deletion leaves the other's
    ∷ on (snapshot 0 7 ∷ snapshot 7 8 ∷ write 7 0 (eight 1) ∷ read 8 0 ∷ count ∷ delete 8 ∷ read 7 0 ∷ count ∷ [])
    (says 0 ∷ says 0 ∷ says 0 ∷ reads (eight 0) 2 ∷ counted 5 2 ∷ says 0 ∷ reads (eight 1) 1 ∷ counted 5 1 ∷ [])
    -- every place in use: a shared row is refused, a row of one's own is not, the origin's alike; a deletion gives its places back
    ∷ on
    (snapshot 0 7 ∷ write 7 0 (eight 1) ∷ write 7 1 (eight 1) ∷ write 7 2 (eight 1) ∷ write 7 0 (eight 2) ∷ write 0 2 (eight 3) ∷ write 0 0 (eight 3)
    ∷ delete 7 ∷ snapshot 0 9 ∷ write 9 2 (eight 1) ∷ [])
    (says 0 ∷ says 0 ∷ says 0 ∷ says 24 ∷ says 0 ∷ says 24 ∷ says 0 ∷ says 0 ∷ says 0 ∷ says 0 ∷ [])
    -- a row written as it is: the origin's zeros, shared; in a full store, and then other bytes; above a version that reads it too
    ∷ on (snapshot 0 7 ∷ write 0 0 (eight 0) ∷ count ∷ []) (says 0 ∷ says 0 ∷ counted 4 1 ∷ [])
    ∷ on (snapshot 0 7 ∷ write 7 0 (eight 1) ∷ write 7 1 (eight 1) ∷ write 7 2 (eight 0) ∷ write 7 2 (eight 1) ∷ count ∷ [])
    (says 0 ∷ says 0 ∷ says 0 ∷ says 0 ∷ says 24 ∷ counted 6 1 ∷ [])
    ∷ on (snapshot 0 7 ∷ snapshot 7 8 ∷ write 7 0 (eight 0) ∷ count ∷ []) (says 0 ∷ says 0 ∷ says 0 ∷ counted 4 2 ∷ [])
    -- who shares a row: the origin alone; with snapshots 7 of 0 and 8 of 7, three; where 7 has written, 7 alone, and the two others; 0 with a refusal
    ∷ on (all 0) (alike (eight 0) 1)
    ∷ on (snapshot 0 7 ∷ snapshot 7 8 ∷ (all 0 ++ (all 7 ++ all 8))) (says 0 ∷ says 0 ∷ (alike (eight 0) 3 ++ (alike (eight 0) 3 ++ alike (eight 0) 3)))
    ∷ on (snapshot 0 7 ∷ snapshot 7 8 ∷ write 7 0 (eight 1) ∷ read 7 0 ∷ read 0 0 ∷ read 8 0 ∷ read 7 1 ∷ read 7 4 ∷ read 9 0 ∷ [])
    (says 0 ∷ says 0 ∷ says 0 ∷ reads (eight 1) 1 ∷ reads (eight 0) 2 ∷ reads (eight 0) 2 ∷ reads (eight 0) 3 ∷ ends 3 0 ∷ ends 21 0 ∷ [])
    -- a border of five rows that ends in 24 at its third, with two places free: two rows are written, and those behind are not
    ∷ calling
    (one (snapshot 0 7) ∷ border 7 (0 ∷ 1 ∷ 2 ∷ 0 ∷ 3 ∷ []) (eight 1 ++ (eight 2 ++ (eight 3 ++ (eight 4 ++ eight 0)))) ∷ one (read 7 0) ∷ one (read 7 1) ∷ one (read 7 2) ∷ one count ∷ [])
    (says 0 ∷ ends 24 2 ∷ reads (eight 1) 1 ∷ reads (eight 2) 1 ∷ reads (eight 0) 2 ∷ counted 6 1 ∷ [])
    -- one that ends in 3; one of a row twice, as it is and with other bytes
    ∷ calling (border 0 (3 ∷ 4 ∷ 2 ∷ []) (eight 1 ++ (eight 2 ++ eight 3)) ∷ one (read 0 3) ∷ one (read 0 2) ∷ []) (ends 3 1 ∷ reads (eight 1) 1 ∷ reads (eight 0) 1 ∷ [])
    ∷ calling (border 0 (3 ∷ 3 ∷ []) (eight 0 ++ eight 5) ∷ one (read 0 3) ∷ []) (ends 0 2 ∷ reads (eight 5) 1 ∷ [])
    -- no rows, of the origin and of a version that is not alive; 64 rows; 65 rows with a wrong length; one row with a wrong length
    ∷ calling (border 0 [] [] ∷ border 9 [] [] ∷ []) (ends 0 0 ∷ ends 21 0 ∷ [])
    ∷ calling (border 0 (replicate 64 1) (replicate 512 6) ∷ border 0 (replicate 65 1) (replicate 512 6) ∷ border 0 (1 ∷ []) (replicate 9 6) ∷ []) (ends 0 64 ∷ ends 25 0 ∷ ends 2 0 ∷ [])
    ∷ []

pub cases_met : AllMeet cases
unfolding equal rows_with any only different alive snapshots_alive shared sharers places_used refusal in_measure open_tests in_order tests accepted adopt put without effect opened verdict answer after border_tests bordered reply next answers
cases_met = ((refl, refl), ((refl, refl), ((refl, refl), ((refl, refl), ((refl, refl), ((refl, refl), ((refl, refl), ((refl, refl), ((refl, refl), ((refl, refl), ((refl, refl), ((refl, refl), ((refl, refl), ((refl, refl), ((refl, refl), ((refl, refl), ((refl, refl), ((refl, refl), ((refl, refl), ((refl, refl), ((refl, refl), tt)))))))))))))))))))))

-- buffers of a line's lengths
pub record Lent (c : Case) (p n r : List ℕ) : Type 0 where
  pub bytes : length p ≡ c.places
  pub nodes : length n ≡ c.entries
  pub rows : length r ≡ c.entries

-- so every opening of such buffers gets the line's number, and the calls on what it left hand out what the line says
pub case_runs : (c : Case) → Meets c → (places nodes rows : List ℕ) → Lent c places nodes rows → (number : ℕ) (tree : Tree) (places' nodes' rows' : List ℕ)
    → Opening c.size places nodes rows number tree places' nodes' rows'
    → (number ≡ c.opens) × (number ≡ 0 → (hs : List Answer) (s' : State) → Trace (state (records_of c.size tree nodes' rows') places') c.calls hs s' → hs ≡ c.hands)
unfolding open_verdict
case_runs c met places nodes rows lent number tree places' nodes' rows' o = (
  o.answers ∙ rw (lent.bytes, lent.nodes, lent.rows) met.0,
  λ e hs s' t. (theorem_opened c.size places nodes rows number tree places' nodes' rows' o (verdict_none (open_verdict c.size places nodes rows) (sym o.answers ∙ e)) t).0 ∙ met.1,
)

-- and the write of the last line leaves the whole store as it was before it: every node of its tree too, so that there is no ghost
pub no_ghost : (places nodes rows : List ℕ) (number : ℕ) (tree : Tree) (places' nodes' rows' : List ℕ) → Opening usual places nodes rows number tree places' nodes' rows' → number ≡ 0
    → {hs : List Answer} {h : Answer} {s s' : State} → Trace (state (records_of usual tree nodes' rows') places') (one (snapshot 0 7) ∷ one (snapshot 7 8) ∷ []) hs s
    → CallEnds s.records s.places (one (write 7 0 (eight 0))) h s' → s' ≡ s
unfolding open_verdict any different alive snapshots_alive refusal tests adopt effect opened verdict after next final
no_ghost places nodes rows number tree places' nodes' rows' o e t k =
    let q = (theorem_opened usual places nodes rows number tree places' nodes' rows' o (verdict_none (open_verdict usual places nodes rows) (sym o.answers ∙ e)) t).1 in
    (write_untouched q.store q.whole over k (rw q.sized) (rw q.sized (omega arith)) (q.living 7) (sym (q.rows 7 0 refl (omega arith)))).1
