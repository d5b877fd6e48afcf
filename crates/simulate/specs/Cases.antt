-- Case 4 of document 01, whole, with its T lines as request C-15 has them: the program's input and output, byte for
-- byte, computed from the definitions.
use Rattle.std.specs.Prelude.{◌≡◌, refl, List, [], ◌∷◌, ℕ}
use Rattle.std.specs.Int.Count.{ones}
use Rattle.sets.specs.Truth.{bit, ◌and◌, ◌or◌, same, less, select, one_to, check}
use Rattle.sets.specs.Lists.{each, every, every_in, joined}
use Rattle.sets.specs.Set.{has, insert_of, remove_of, union_of, intersection_of, difference_of, all_of, size_of, within}
use Rattle.global_data.specs.GlobalData.{portions_of, diet_of, entry_of, same_entry, diet_fits, nothing_of, one_of}
use Rattle.global_data.specs.GlobalData.{filled_word, fill_of, fill_from, same_to, all_same}
use Rattle.process.specs.Steps.{idle_of, has_decided, takes_part, open_round_of, start_of, keeps, receive_of}
use Rattle.process.specs.Steps.{arrived_of, due_of, next_of, peers_of, filled_of, agreed_of, closing_of, closing_number}
use Rattle.process.specs.Steps.{opens_next, decides_of, owed_of, decide_of, advance_of, close_of}
use Rattle.process.specs.Steps.{adopt_of, message_of, send_of, suspect_of}
use Rattle.bench.specs.State.{process_at, sent_at, transit_at, crashed_at, with_process}
use Rattle.bench.specs.State.{with_sent, with_transit, with_crashed, opened_of}
use Rattle.bench.specs.Sound.{opens, sound_data, sound_process, sound_of}
use Rattle.bench.specs.Record.{word_of, uses_b}
use Rattle.bench.specs.Record.{fields, message_from, event_of, parts_of, read_of, start_fits}
use Rattle.bench.specs.Record.{value_of, check_diet, decode_of, decode_as}
use Rattle.bench.specs.Refuse.{number_of, actor, is_crash, passes7, passes8, passes9, refuses, refuses_decoded, refusal_by}
use Rattle.bench.specs.Refuse.{refusal}
use Rattle.bench.specs.Effect.{opens_round, rows_at, sends, arrives, closes_as, effect}
use Rattle.bench.specs.Calls.{open_of as openBench, event_in, accepted_one, after_events, step_of, after_record}
use Rattle.bench.specs.OneByOne.{rest_at, record_at, steps}
use Rattle.text.specs.Text.{digits_of, decimal, field_of, line_of, value_text, process_text, processes_text}
use Rattle.simulate.specs.Output.{opening_refusal, opening_of, records_in, answer_at}
use Rattle.simulate.specs.Output.{line_at, lines_of, after_all, written_after, output_of}

-- the opening record and the twelve
pub input : List ℕ
input =
    0 ∷ 2 ∷ 1 ∷ 0 ∷ 0 ∷ 0 ∷ 0 ∷ 0
    ∷ 1 ∷ 1 ∷ 0 ∷ 0 ∷ 40 ∷ 0 ∷ 0 ∷ 0
    ∷ 1 ∷ 2 ∷ 0 ∷ 0 ∷ 25 ∷ 0 ∷ 0 ∷ 0
    ∷ 2 ∷ 1 ∷ 2 ∷ 0 ∷ 0 ∷ 0 ∷ 0 ∷ 0
    ∷ 2 ∷ 2 ∷ 1 ∷ 0 ∷ 0 ∷ 0 ∷ 0 ∷ 0
    ∷ 3 ∷ 1 ∷ 2 ∷ 1 ∷ 0 ∷ 0 ∷ 0 ∷ 0
    ∷ 3 ∷ 2 ∷ 1 ∷ 1 ∷ 0 ∷ 0 ∷ 0 ∷ 0
    ∷ 4 ∷ 1 ∷ 0 ∷ 0 ∷ 0 ∷ 0 ∷ 0 ∷ 0
    ∷ 5 ∷ 2 ∷ 0 ∷ 0 ∷ 0 ∷ 0 ∷ 0 ∷ 0
    ∷ 2 ∷ 1 ∷ 2 ∷ 0 ∷ 0 ∷ 0 ∷ 0 ∷ 0
    ∷ 4 ∷ 1 ∷ 0 ∷ 0 ∷ 0 ∷ 0 ∷ 0 ∷ 0
    ∷ 6 ∷ 1 ∷ 2 ∷ 0 ∷ 0 ∷ 0 ∷ 0 ∷ 0
    ∷ 4 ∷ 1 ∷ 0 ∷ 0 ∷ 0 ∷ 0 ∷ 0 ∷ 0 ∷ []

pub output : List ℕ
output =
    49 ∷ 32 ∷ 48 ∷ 10
    ∷ 50 ∷ 32 ∷ 48 ∷ 10
    ∷ 51 ∷ 32 ∷ 48 ∷ 10
    ∷ 52 ∷ 32 ∷ 48 ∷ 10
    ∷ 53 ∷ 32 ∷ 48 ∷ 10
    ∷ 54 ∷ 32 ∷ 48 ∷ 10
    ∷ 55 ∷ 32 ∷ 48 ∷ 10
    ∷ 56 ∷ 32 ∷ 48 ∷ 10
    ∷ 57 ∷ 32 ∷ 48 ∷ 10
    ∷ 49 ∷ 48 ∷ 32 ∷ 56 ∷ 10
    ∷ 49 ∷ 49 ∷ 32 ∷ 48 ∷ 10
    ∷ 49 ∷ 50 ∷ 32 ∷ 48 ∷ 10
    ∷ 84 ∷ 32 ∷ 49 ∷ 32 ∷ 50 ∷ 32 ∷ 48 ∷ 32 ∷ 49 ∷ 32 ∷ 52 ∷ 48 ∷ 47 ∷ 48 ∷ 32 ∷ 50 ∷ 53 ∷ 47 ∷ 48 ∷ 10
    ∷ 84 ∷ 32 ∷ 50 ∷ 32 ∷ 49 ∷ 32 ∷ 49 ∷ 32 ∷ 48 ∷ 32 ∷ 45 ∷ 32 ∷ 50 ∷ 53 ∷ 47 ∷ 48 ∷ 10 ∷ []

pub case4 : output_of input ≡ output
unfolding input output digits_of decimal field_of line_of value_text process_text processes_text bit opening_refusal
    opening_of records_in answer_at line_at lines_of after_all written_after output_of joined openBench rest_at record_at
    steps has insert_of remove_of union_of intersection_of difference_of all_of size_of ones ◌and◌ ◌or◌ same less select
    portions_of diet_of entry_of same_entry diet_fits each every nothing_of one_of filled_word fill_of fill_from same_to
    all_same idle_of has_decided takes_part open_round_of start_of keeps receive_of arrived_of due_of next_of peers_of filled_of
    agreed_of closing_of closing_number opens_next decides_of owed_of decide_of advance_of close_of adopt_of message_of send_of
    suspect_of process_at sent_at transit_at crashed_at with_process with_sent with_transit with_crashed opened_of opens
    every_in within sound_data sound_process sound_of word_of one_to uses_b
    fields message_from event_of parts_of value_of read_of start_fits check_diet decode_of check number_of actor is_crash passes7
    passes8 passes9 refuses refuses_decoded refusal opens_round rows_at sends arrives closes_as effect
    event_in accepted_one after_events step_of after_record refusal_by decode_as
case4 = refl
