-- The document's listing: 14 records and the lines that the definitions give for them, in one table. Assumes nothing.
use mathlib.Core.Path.{◌≡◌, refl, ap, ◌∙◌}
use mathlib.Core.List.{List, [], ◌∷◌, ◌++◌}
use Prim.Native.Nat.{ℕ, ◌*◌}
use lib.ListN.{length, get_or, take}
use Rattle.meaning.specs.declared.Refusal.TheVariants.{RuleNotLive}
use Rattle.meaning.specs.declared.Answer.{Answer}
use Rattle.meaning.specs.declared.Answer.TheVariants.{Refused, Ok, Changed, Loop, NoLoop, Went, Tally}
use Rattle.meaning.specs.declared.Fate.TheVariants.{Out, Round}
use Rattle.meaning.specs.Hall.{zeroes, empty, fresh, source_of, end_of, link_word}
use Rattle.meaning.specs.Rule.{live, link_of, free_of, rank, covers, lower, upper, overlap, rule_word}
use Rattle.meaning.specs.Winner.{better, best, rule_at, eligible, winner, link_for, next_at}
use Rattle.meaning.specs.Atoms.{place_of, is_cut, insert_at, split_cut, split_number, split_count, with_cut}
use Rattle.meaning.specs.Changes.{link_or_none, changed_at, changed_places, entry_at, entries_at, overwrite}
use Rattle.meaning.specs.Walk.{arrive, leave, move, after, stands, stands_at, goes_round, on_circle, comes_to, told, fate_in}
use Rattle.meaning.specs.Search.{any_below, lowest_below, tabulate}
use Rattle.meaning.specs.Questions.{fate_of, loops_at, circle_at, some_node, loop_from, reach_from, reaches_at, is_out, is_lost, is_round, asked}
use Rattle.meaning.specs.Records.{number, is_kind, body_of, record_of, read_of, sort_of, set_up_phase, phase_of}
use Rattle.meaning.specs.Step.{list_room, when, set_up_refusal, planned, ragged, clashes, added, update_refusal, with_rule, inserted, updated, node_of, listed, question_refusal, refusal, leaves, writes, only, answers, accepted, taken, step_for, step_with, step_of}
use Rattle.meaning.specs.Working.{least_place, count_place, by_place, step_in}
use Rattle.meaning.specs.Run.{start, Ran, run_from}
use Rattle.examples.specs.Lines.{Line, lines_from, lines_of}
use Rattle.meaning.specs.Labels.{names, is_on, word_of, labels_of}
use Rattle.examples.proofs.ByPlaces.{lines_in, run_in}

-- the document's bytes, a record to a line
unfoldable pub bytes : List ℕ
bytes =
    0x01 ∷ 0x02
    ∷ 0x02 ∷ 0x00 ∷ 0x00 ∷ 0x01
    ∷ 0x02 ∷ 0x01 ∷ 0x00 ∷ 0x00
    ∷ 0x02 ∷ 0x01 ∷ 0x01 ∷ 0x07
    ∷ 0x03
    ∷ 0x04 ∷ 0x00 ∷ 0x00 ∷ 0x00 ∷ 0x00 ∷ 0x00 ∷ 0x00 ∷ 0x00 ∷ 0x00 ∷ 0x00 ∷ 0x01
    ∷ 0x04 ∷ 0x00 ∷ 0x01 ∷ 0x02 ∷ 0x00 ∷ 0x00 ∷ 0x00 ∷ 0x00 ∷ 0x00 ∷ 0x00 ∷ 0x01
    ∷ 0x04 ∷ 0x00 ∷ 0x02 ∷ 0x01 ∷ 0x0A ∷ 0x00 ∷ 0x00 ∷ 0x00 ∷ 0x08 ∷ 0x00 ∷ 0x05
    ∷ 0x06
    ∷ 0x07 ∷ 0x00 ∷ 0x0A ∷ 0x00 ∷ 0x00 ∷ 0x01
    ∷ 0x07 ∷ 0x00 ∷ 0x09 ∷ 0xFF ∷ 0xFF ∷ 0xFF
    ∷ 0x05 ∷ 0x00 ∷ 0x02
    ∷ 0x06
    ∷ 0x05 ∷ 0x00 ∷ 0x02
    ∷ []

unfoldable pub line : Answer → List ℕ → Line
line a w = record { answer = a; written = w }

-- the document's output, a line to a record: "none" is link 64
unfoldable pub table : List Line
unfolding line
table =
    line Ok []
    ∷ line Ok []
    ∷ line Ok []
    ∷ line Ok []
    ∷ line Ok []
    ∷ line (Changed 1) (0 ∷ 0 ∷ 4294967296 ∷ 64 ∷ 0 ∷ [])
    ∷ line (Changed 1) (0 ∷ 0 ∷ 4294967296 ∷ 64 ∷ 2 ∷ [])
    ∷ line (Changed 1) (1 ∷ 167772160 ∷ 184549376 ∷ 2 ∷ 1 ∷ [])
    ∷ line (Loop 167772160 0) []
    ∷ line (Went Round) []
    ∷ line (Went (Out 2 1)) []
    ∷ line (Changed 1) (1 ∷ 167772160 ∷ 184549376 ∷ 1 ∷ 2 ∷ [])
    ∷ line NoLoop []
    ∷ line (Refused RuleNotLive) []
    ∷ []

-- to unfold this is to unfold every definition of the meaning but the search over addresses
unfoldable pub opened : ℕ
unfolding empty source_of end_of link_word live link_of free_of rank covers lower upper overlap rule_word better best rule_at eligible winner link_for next_at place_of is_cut insert_at split_cut split_number split_count with_cut link_or_none changed_at changed_places entry_at entries_at arrive leave move after stands stands_at any_below lowest_below goes_round on_circle comes_to told fate_in fate_of loops_at circle_at some_node loop_from reach_from reaches_at is_out is_lost is_round asked least_place count_place by_place number is_kind body_of record_of sort_of set_up_phase phase_of when set_up_refusal planned ragged clashes added update_refusal with_rule inserted updated node_of listed question_refusal refusal leaves writes only answers accepted taken read_of step_for step_with step_in lines_from
opened = 0

by_places : lines_from step_in list_room (length bytes) fresh bytes ≡ table
unfolding bytes line table opened
by_places = refl

-- THE LISTING
pub listing : lines_of list_room bytes ≡ table
unfolding lines_of
listing = lines_in list_room (length bytes) fresh bytes start ∙ by_places

-- the document's tally at node 0, asked after place 8
unfoldable pub tallied : List ℕ
tallied = take 49 bytes ++ (0x09 ∷ 0x00 ∷ [])

tally_by_places : get_or (lines_from step_in list_room (length tallied) fresh tallied) 9 (record { answer = Ok; written = [] }) ≡ record { answer = Tally 4278190080 0 16777216; written = [] }
unfolding bytes tallied opened
tally_by_places = refl

pub tally : get_or (lines_of list_room tallied) 9 (record { answer = Ok; written = [] }) ≡ record { answer = Tally 4278190080 0 16777216; written = [] }
unfolding lines_of
tally = ap (λ (ls : List Line). get_or ls 9 (record { answer = Ok; written = [] })) (lines_in list_room (length tallied) fresh tallied start) ∙ tally_by_places

-- the label words of links 0, 1 and 2 after place 7: atoms 0, 1 and 2; atom 1; atoms 0 and 2
labels_by_places : tabulate 3 0 (λ l. get_or (labels_of (run_from step_in 9 0 fresh (zeroes list_room) (take 48 bytes)).left) (8 * l) 0) ≡ 7 ∷ 2 ∷ 5 ∷ []
unfolding bytes opened overwrite run_from names is_on word_of tabulate labels_of
labels_by_places = refl

pub labels : tabulate 3 0 (λ l. get_or (labels_of (run_from step_of 9 0 fresh (zeroes list_room) (take 48 bytes)).left) (8 * l) 0) ≡ 7 ∷ 2 ∷ 5 ∷ []
labels = ap (λ (x : Ran). tabulate 3 0 (λ l. get_or (labels_of x.left) (8 * l) 0)) (run_in 9 0 fresh (zeroes list_room) (take 48 bytes) start) ∙ labels_by_places
