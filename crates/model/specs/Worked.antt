-- The reference model's answers on the worked stream of SPEC 9.4, and on a stream with every refusal, by evaluation. Assumes nothing.
use Rattle.std.specs.Prelude.{◌≡◌, refl, List, [], ◌∷◌, map, ℕ, zero, suc, replicate}
use Rattle.std.proofs.Math.Option.{none, some}
use Rattle.basics.specs.Equal.{equal}
use Rattle.measures.specs.declared.Size.{Size}
use Rattle.measures.specs.Measures.{rows_with}
use Rattle.model.specs.Call.{Single, one, border, snapshot, read, write, delete, count}
use Rattle.answers.specs.declared.Refusal.TheVariants.{BadSize, BadLength, BadRow, ZeroTag, OriginTag, UnknownTag, TagAlive, SnapshotsFull, PlacesFull}
use Rattle.answers.specs.Answers.{handed, done, row, counts, refused_of, refused}
use Rattle.copies.specs.Copies.{any, only, different, alive, snapshots_alive, without, shared, sharers, places_used, adopt, put}
use Rattle.model.specs.Model.{tests, accepted, effect, opened, verdict, answer, after, border_tests, bordered, reply, next, answers, final}
use Rattle.answers.specs.Tests.{refusal, in_measure, open_tests}
use Rattle.answers.specs.InOrder.{in_order}

-- L = 4, B = 8, P = 6
abbrev small : Size
small = record { rows = 4; width = 8; places = 6 }

eight : ℕ → List ℕ
eight b = replicate 8 b

stream : List Single
stream = snapshot 0 7 ∷ write 0 2 (eight 0xa1) ∷ read 7 2 ∷ read 0 2 ∷ count ∷ delete 7 ∷ count ∷ read 7 0 ∷ []

-- the eight lines of SPEC 9.4
worked : answers small (opened small) (map one stream)
    ≡ done ∷ done ∷ row (eight 0) 1 ∷ row (eight 0xa1) 1 ∷ counts 5 1 ∷ done ∷ counts 4 0 ∷ refused_of 1 UnknownTag ∷ []
unfolding equal stream eight any only different alive snapshots_alive shared sharers places_used refusal tests accepted adopt put without effect opened verdict answer after reply next answers
worked = refl

-- two rows of one byte, three places
abbrev tiny : Size
tiny = record { rows = 2; width = 1; places = 3 }

refusals : answers tiny (opened tiny)
    (map one (snapshot 0 7 ∷ write 0 1 (5 ∷ []) ∷ write 7 0 (9 ∷ []) ∷ snapshot 0 0 ∷ snapshot 8 8 ∷ snapshot 7 7 ∷ read 0 2 ∷ read 8 0 ∷ write 0 0 [] ∷ write 0 2 [] ∷ delete 0 ∷ delete 8 ∷ write 0 1 (5 ∷ []) ∷ count ∷ []))
    ≡ done ∷ done ∷ refused PlacesFull ∷ refused ZeroTag ∷ refused UnknownTag ∷ refused TagAlive ∷ refused_of 1 BadRow ∷ refused_of 1 UnknownTag ∷ refused BadLength ∷ refused BadLength ∷ refused OriginTag ∷ refused UnknownTag ∷ done ∷ counts 3 1 ∷ []
unfolding equal any only different alive snapshots_alive shared sharers places_used refusal tests accepted adopt put without effect opened verdict answer after reply next answers
refusals = refl

-- a snapshot has its source's bytes, and keeps them
copies : answers tiny (opened tiny) (map one (write 0 0 (9 ∷ []) ∷ snapshot 0 7 ∷ write 0 0 (8 ∷ []) ∷ snapshot 7 8 ∷ delete 7 ∷ read 8 0 ∷ read 0 0 ∷ count ∷ []))
    ≡ done ∷ done ∷ done ∷ done ∷ done ∷ row (9 ∷ []) 1 ∷ row (8 ∷ []) 1 ∷ counts 3 1 ∷ []
unfolding equal any only different alive snapshots_alive shared sharers places_used refusal tests accepted adopt put without effect opened verdict answer after reply next answers
copies = refl

-- who weaves a row: the origin alone; with snapshots 7 of it and 8 of 7, three; where 7 has written, 7 alone and the two others; one fewer once 8 is gone
numbers : answers tiny (opened tiny)
    (map one (read 0 0 ∷ snapshot 0 7 ∷ snapshot 7 8 ∷ read 0 0 ∷ read 7 0 ∷ read 8 0 ∷ write 7 0 (5 ∷ []) ∷ read 0 0 ∷ read 7 0 ∷ read 8 0 ∷ read 7 1 ∷ delete 8 ∷ read 0 0 ∷ read 7 1 ∷ read 8 0 ∷ []))
    ≡ row (0 ∷ []) 1 ∷ done ∷ done ∷ row (0 ∷ []) 3 ∷ row (0 ∷ []) 3 ∷ row (0 ∷ []) 3 ∷ done ∷ row (0 ∷ []) 2 ∷ row (5 ∷ []) 1 ∷ row (0 ∷ []) 2 ∷ row (0 ∷ []) 3
    ∷ done ∷ row (0 ∷ []) 1 ∷ row (0 ∷ []) 2 ∷ refused_of 1 UnknownTag ∷ []
unfolding equal any only different alive snapshots_alive shared sharers places_used refusal tests accepted adopt put without effect opened verdict answer after reply next answers
numbers = refl

-- a row written as it is keeps its mark: the origin's that is shared, and a snapshot's in a full store, where other bytes are refused
untouched : answers tiny (opened tiny) (map one (snapshot 0 7 ∷ write 0 0 (0 ∷ []) ∷ count ∷ write 7 1 (9 ∷ []) ∷ write 7 0 (0 ∷ []) ∷ write 7 0 (9 ∷ []) ∷ count ∷ []))
    ≡ done ∷ done ∷ counts 2 1 ∷ done ∷ done ∷ refused PlacesFull ∷ counts 3 1 ∷ []
unfolding equal any only different alive snapshots_alive shared sharers places_used refusal tests accepted adopt put without effect opened verdict answer after reply next answers
untouched = refl

-- borders of version 7 in the last place: three rows done, one of them twice and one as it is; the third row refused by 24, and what is behind it not
-- written; refused by 3; no rows; no rows of a version that is not alive; a byte short; 64 rows; 65 with a wrong length
borders : answers tiny (opened tiny)
    (one (snapshot 0 7) ∷ border 7 (1 ∷ 1 ∷ 0 ∷ []) (5 ∷ 6 ∷ 0 ∷ []) ∷ border 7 (1 ∷ 0 ∷ 0 ∷ 1 ∷ 1 ∷ []) (7 ∷ 0 ∷ 9 ∷ 8 ∷ 8 ∷ []) ∷ one (read 7 1)
    ∷ border 7 (1 ∷ 2 ∷ 1 ∷ []) (4 ∷ 4 ∷ 3 ∷ []) ∷ one (read 7 1) ∷ border 7 [] [] ∷ border 8 [] [] ∷ border 7 (1 ∷ 1 ∷ []) (9 ∷ []) ∷ border 7 (replicate 64 1) (replicate 64 6) ∷ border 7 (replicate 65 1) (6 ∷ []) ∷ one count ∷ [])
    ≡ done ∷ handed 0 [] (3 ∷ []) ∷ handed 24 [] (2 ∷ []) ∷ row (7 ∷ []) 1
    ∷ handed 3 [] (1 ∷ []) ∷ row (4 ∷ []) 1 ∷ handed 0 [] (0 ∷ []) ∷ handed 21 [] (0 ∷ []) ∷ handed 2 [] (0 ∷ []) ∷ handed 0 [] (64 ∷ []) ∷ handed 25 [] (0 ∷ []) ∷ counts 3 1 ∷ []
unfolding equal rows_with any only different alive snapshots_alive shared sharers places_used refusal in_order tests accepted adopt put without effect opened verdict answer after border_tests bordered reply next answers
borders = refl

snapshots_of_origin : ℕ → List Single
snapshots_of_origin zero = []
snapshots_of_origin (suc n) = snapshot 0 (suc n) ∷ snapshots_of_origin n

-- the 65th snapshot is refused
too_many : answer tiny (final tiny (opened tiny) (map one (snapshots_of_origin 64))) (snapshot 0 99) ≡ refused SnapshotsFull
unfolding equal snapshots_of_origin any only different alive snapshots_alive shared sharers places_used refusal tests accepted adopt put without effect opened verdict answer after next final
too_many = refl

-- opening: L = 4, B = 8, P = 6 with its buffers; L = 0; P below L; a byte of the places missing; an entry of the table missing
opens : map (λ (t : ℕ × (ℕ × ℕ)). refusal (open_tests (record { rows = t.0; width = 8; places = 6 }) t.1.0 t.1.1 t.1.1))
    ((4, (48, 2)) ∷ (0, (48, 6)) ∷ (7, (48, 0)) ∷ (4, (47, 2)) ∷ (4, (48, 1)) ∷ [])
    ≡ none ∷ some BadSize ∷ some BadSize ∷ some BadLength ∷ some BadLength ∷ []
unfolding refusal open_tests in_measure
opens = refl
