-- The starred cases 1 to 8 of document 01, starts of the requests and weeks that are carried over, as one table, and
-- one theorem that the definitions give each of them its answers, how its rounds ended (request C-11) and its end.
use Rattle.std.specs.Prelude.{◌≡◌, refl, List, [], ◌∷◌, Bool, true, false, ℕ, zero, suc, ◌+◌, ◌*◌, ◌/◌, ◌%◌, Option, Some, None}
use Rattle.std.specs.Int.Count.{ones}
use Rattle.sets.specs.Lists.{each, every, every_in}
use Rattle.sets.specs.Set.{has, insert_of, remove_of, union_of, intersection_of, difference_of, all_of, size_of, within}
use Rattle.sets.specs.Truth.{◌and◌, ◌or◌, same, less, select, one_to, check}
use Rattle.global_data.specs.GlobalData.{portions_of, diet_of, Entry, entry_with, entry_of, same_entry, diet_fits}
use Rattle.global_data.specs.GlobalData.{nothing_of, one_of}
use Rattle.global_data.specs.GlobalData.{filled_word, fill_of, fill_from, same_to, all_same}
use Rattle.process.specs.Steps.{has_decided, idle_of, takes_part, open_round_of, start_of, keeps, receive_of}
use Rattle.process.specs.Steps.{arrived_of, due_of, next_of, peers_of, filled_of, agreed_of, closing_of}
use Rattle.process.specs.Steps.{closing_number, opens_next, decides_of, owed_of}
use Rattle.process.specs.Steps.{decide_of, advance_of, close_of, adopt_of, message_of, send_of, suspect_of}
use Rattle.process.specs.declared.Process.{Process}
use Rattle.process.specs.declared.Closing.{Closing}
use Rattle.process.specs.declared.Closing.TheVariants.{NextRound, Agreed, LastRound}
use Rattle.bench.specs.declared.Bench.{Bench}
use Rattle.bench.specs.declared.Event.TheVariants.{Start as StartOf}
use Rattle.bench.specs.State.{process_at, sent_at, transit_at, crashed_at, with_process}
use Rattle.bench.specs.State.{with_sent, with_transit, with_crashed, opened_of}
use Rattle.bench.specs.Sound.{opens, sound_data, sound_process, sound_of}
use Rattle.bench.specs.Record.{word_of, uses_b}
use Rattle.bench.specs.Record.{fields, message_from, event_of, parts_of}
use Rattle.bench.specs.Record.{value_of, read_of, start_fits, check_diet, decode_of, Form, v1, v2, decode_as}
use Rattle.bench.specs.Refuse.{number_of, actor, is_crash, passes7, passes8}
use Rattle.bench.specs.Refuse.{passes9, refuses, refuses_decoded, refusal_by}
use Rattle.bench.specs.Effect.{opens_round, rows_at, sends, arrives, closes_as, effect}
use Rattle.bench.specs.Closings.{closing_at, last_of}
use Rattle.bench.specs.Calls.{event_in, accepted_one, after_events, closing_from, step_by, step_of}
use Rattle.bench.specs.Carry.{plain_data, plain_process, plain_bench, carry_refusal}

-- a record's bytes: kind, a, b, r, and no value
bytes : ℕ → ℕ → ℕ → ℕ → List ℕ
bytes kind a b r = kind ∷ a ∷ b ∷ r ∷ 0 ∷ 0 ∷ 0 ∷ 0 ∷ []

-- portions and diet portions
start_with : ℕ → ℕ → ℕ → List ℕ
start_with a p d = 1 ∷ a ∷ 0 ∷ 0 ∷ p % 256 ∷ p / 256 ∷ d % 256 ∷ d / 256 ∷ []

start : ℕ → ℕ → List ℕ
start a p = start_with a p 0

send : ℕ → ℕ → List ℕ
send a b = bytes 2 a b 0

arrive : ℕ → ℕ → ℕ → List ℕ
arrive a b r = bytes 3 a b r

close : ℕ → List ℕ
close a = bytes 4 a 0 0

crash : ℕ → List ℕ
crash a = bytes 5 a 0 0

suspect : ℕ → ℕ → List ℕ
suspect a b = bytes 6 a b 0

-- a process at the end, as the program's `T` lines show it
pub record Line : Type 0 where
  pub process : ℕ
  pub round : ℕ
  pub crashed : Bool
  pub decided : Bool
  -- its current set, as bits
  pub current : ℕ
  pub entries : List Entry

-- its number, round, whether it crashed and decided, current set, entries
abbrev line : ℕ → ℕ → Bool → Bool → ℕ → List Entry → Line
line a r c d m l = record { process = a; round = r; crashed = c; decided = d; current = m; entries = l }

-- how a round ended, at the record of that number, from 1
pub record Closes : Type 0 where
  pub record_number : ℕ
  pub closing : Closing

abbrev at : ℕ → Closing → Closes
at k c = record { record_number = k; closing = c }

-- a schedule on a bench of n and t: the refusal at opening or 0, the records, the answer to each,
-- how each round ended that one of them closed, and some processes at the end
pub record Case : Type 0 where
  pub n : ℕ
  pub t : ℕ
  pub opening : ℕ
  pub records : List (List ℕ)
  pub answers : List ℕ
  pub closings : List Closes
  pub lines : List Line

-- the answers, and the bench at the end, by the rules of now or those before request C-15
answers_of : Form → Bench → List (List ℕ) → List ℕ
answers_of f s [] = []
answers_of f s (r ∷ rs) = refusal_by f s r ∷ answers_of f (step_by f s r).bench rs

-- the closing of record k, if there is one, before the others
told : ℕ → Option Closing → List Closes → List Closes
told k None rest = rest
told k (Some c) rest = at k c ∷ rest

-- the closings that there are, the first record being number k
closings_of : ℕ → Bench → List (List ℕ) → List Closes
closings_of k s [] = []
closings_of k s (r ∷ rs) =
    let e = step_of s r in
    told k e.closing (closings_of (suc k) e.bench rs)

end_of : Form → Bench → List (List ℕ) → Bench
end_of f s [] = s
end_of f s (r ∷ rs) = end_of f (step_by f s r).bench rs

same_bool : Bool → Bool → Bool
same_bool true b = b
same_bool false true = false
same_bool false false = true

same_list : List ℕ → List ℕ → Bool
same_list [] [] = true
same_list [] (y ∷ m) = false
same_list (x ∷ l) [] = false
same_list (x ∷ l) (y ∷ m) = same x y and same_list l m

same_closings : List Closes → List Closes → Bool
same_closings [] [] = true
same_closings [] (y ∷ m) = false
same_closings (x ∷ l) [] = false
same_closings (x ∷ l) (y ∷ m) =
    same x.record_number y.record_number
    and (same (closing_number (Some x.closing)) (closing_number (Some y.closing)) and same_closings l m)

same_entries : ℕ → Process → List Entry → Bool
same_entries k p [] = true
same_entries k p (e ∷ l) = same_entry (entry_of p.estimate k) e and same_entries (suc k) p l

one_less : ℕ → ℕ
one_less zero = zero
one_less (suc k) = k

same_line : Bench → Line → Bool
same_line s l =
    let p = process_at s (one_less l.process) in
    same p.round l.round
    and (same_bool (crashed_at s (one_less l.process)) l.crashed
    and (same_bool (has_decided p) l.decided and (same p.current l.current and same_entries 0 p l.entries)))

-- from a bench s
pub passes_from : Bench → Case → Bool
passes_from s c =
    same (select (opens c.n c.t) 0 1) c.opening
    and (same_list (answers_of v2 s c.records) c.answers
    and (same_closings (closings_of 1 s c.records) c.closings
    and every_in (same_line (end_of v2 s c.records)) c.lines))

pub passes : Case → Bool
passes c = passes_from (opened_of c.n c.t) c

-- every process sends its message to each of two others; each of them arrives
round3 : ℕ → List (List ℕ) → List (List ℕ)
round3 r rest =
    send 1 2 ∷ send 1 3 ∷ send 2 1 ∷ send 2 3 ∷ send 3 1 ∷ send 3 2
    ∷ arrive 1 2 r ∷ arrive 1 3 r ∷ arrive 2 1 r ∷ arrive 2 3 r ∷ arrive 3 1 r ∷ arrive 3 2 r ∷ close 1 ∷ close 2
    ∷ close 3 ∷ rest

-- no answer is a refusal
no_refusal : List (List ℕ) → List ℕ
no_refusal [] = []
no_refusal (r ∷ rs) = 0 ∷ no_refusal rs

-- ---- the table
-- 1: alone; in round 1 of 1 the test holds as well, and the answer is the last round
case1 : Case
case1 =
    record {
      n = 1;
      t = 0;
      opening = 0;
      records = start 1 7 ∷ close 1 ∷ [];
      answers = 0 ∷ 0 ∷ [];
      closings = at 2 LastRound ∷ [];
      lines =
          line 1 1 false true 1 (entry_with 7 0 ∷ []) ∷ [];
    }

-- 2: three processes, no crash, all decide in round 2, each since the estimates agree
all_three : ℕ → Line
all_three a = line a 2 false true 7 (entry_with 5 0 ∷ entry_with 6 0 ∷ entry_with 7 0 ∷ [])

case2 : Case
case2 =
    let schedule = start 1 5 ∷ start 2 6 ∷ start 3 7 ∷ round3 1 (round3 2 []) in
    record {
      n = 3;
      t = 2;
      opening = 0;
      records = schedule;
      answers = no_refusal schedule;
      closings =
          at 16 NextRound ∷ at 17 NextRound ∷ at 18 NextRound ∷ at 31 Agreed ∷ at 32 Agreed ∷ at 33 Agreed ∷ [];
      lines = all_three 1 ∷ all_three 2 ∷ all_three 3 ∷ [];
    }

-- 3: the value 0 is present
case3 : Case
case3 =
    record {
      n = 1;
      t = 0;
      opening = 0;
      records = start 1 0 ∷ close 1 ∷ [];
      answers = 0 ∷ 0 ∷ [];
      closings = at 2 LastRound ∷ [];
      lines =
          line 1 1 false true 1 (entry_with 0 0 ∷ []) ∷ [];
    }

-- 4: the program's input, all twelve answers and both final lines; 6 on top of it: a crash too many
case4and6 : Case
case4and6 =
    record {
      n = 2;
      t = 1;
      opening = 0;
      records =
          start 1 40 ∷ start 2 25 ∷ send 1 2 ∷ send 2 1 ∷ arrive 1 2 1 ∷ arrive 2 1 1 ∷ close 1 ∷ crash 2 ∷ send 1 2
          ∷ close 1
          ∷ suspect 1 2 ∷ close 1 ∷ crash 1 ∷ [];
      answers = 0 ∷ 0 ∷ 0 ∷ 0 ∷ 0 ∷ 0 ∷ 0 ∷ 0 ∷ 0 ∷ 8 ∷ 0 ∷ 0 ∷ 9 ∷ [];
      closings = at 7 NextRound ∷ at 12 LastRound ∷ [];
      lines =
          line 1 2 false true 3 (entry_with 40 0 ∷ entry_with 25 0 ∷ [])
          ∷ line 2 1 true false 3 (None ∷ entry_with 25 0 ∷ []) ∷ [];
    }

-- 5: sizes that open and sizes that do not
sizes : ℕ → ℕ → ℕ → Case
sizes n t opening = record { n = n; t = t; opening = opening; records = []; answers = []; closings = []; lines = [] }

-- 7: an estimate arrived, then its sender is suspected, then the close: it is in the next set
case7 : Case
case7 =
    record {
      n = 2;
      t = 1;
      opening = 0;
      records = start 1 40 ∷ start 2 25 ∷ send 1 2 ∷ send 2 1 ∷ arrive 2 1 1 ∷ crash 2 ∷ suspect 1 2 ∷ close 1 ∷ [];
      answers = 0 ∷ 0 ∷ 0 ∷ 0 ∷ 0 ∷ 0 ∷ 0 ∷ 0 ∷ [];
      closings = at 8 NextRound ∷ [];
      lines = line 1 2 false false 3 (entry_with 40 0 ∷ entry_with 25 0 ∷ []) ∷ [];
    }

-- 8: equal estimates with previous and next differing, in a round below t + 1: no decision
case8 : Case
case8 =
    record {
      n = 2;
      t = 1;
      opening = 0;
      records = start 1 5 ∷ crash 2 ∷ suspect 1 2 ∷ send 1 2 ∷ close 1 ∷ [];
      answers = 0 ∷ 0 ∷ 0 ∷ 0 ∷ 0 ∷ [];
      closings = at 5 NextRound ∷ [];
      lines = line 1 2 false false 1 (entry_with 5 0 ∷ None ∷ []) ∷ [];
    }

-- one more: the estimate sent in a round is the one held when it opened, though its sender has since closed that round
case9 : Case
case9 =
    record {
      n = 3;
      t = 2;
      opening = 0;
      records =
          start 1 5 ∷ start 2 6 ∷ start 3 7 ∷ send 1 2 ∷ send 1 3 ∷ send 2 1 ∷ send 2 3 ∷ send 3 1 ∷ arrive 1 2 1
          ∷ arrive 2 1 1
          ∷ arrive 3 1 1 ∷ close 1 ∷ crash 3 ∷ suspect 2 3 ∷ close 2 ∷ [];
      answers = 0 ∷ 0 ∷ 0 ∷ 0 ∷ 0 ∷ 0 ∷ 0 ∷ 0 ∷ 0 ∷ 0 ∷ 0 ∷ 0 ∷ 0 ∷ 0 ∷ 0 ∷ [];
      closings = at 12 NextRound ∷ at 15 NextRound ∷ [];
      lines =
          line 1 2 false false 7 (entry_with 5 0 ∷ entry_with 6 0 ∷ entry_with 7 0 ∷ [])
          ∷ line 2 2 false false 3 (entry_with 5 0 ∷ entry_with 6 0 ∷ None ∷ []) ∷ [];
    }

-- and one: a decision that arrives decides, and is no close
case10 : Case
case10 =
    record {
      n = 2;
      t = 0;
      opening = 0;
      records =
          start 1 5 ∷ start 2 6 ∷ send 1 2 ∷ send 2 1 ∷ arrive 1 2 1 ∷ arrive 2 1 1 ∷ close 1 ∷ send 1 2 ∷ arrive 1 2 0
          ∷ [];
      answers = 0 ∷ 0 ∷ 0 ∷ 0 ∷ 0 ∷ 0 ∷ 0 ∷ 0 ∷ 0 ∷ [];
      closings = at 7 LastRound ∷ [];
      lines = line 2 1 false true 3 (entry_with 5 0 ∷ entry_with 6 0 ∷ []) ∷ [];
    }

-- and C-15's: a start's two numbers at their ends, and 15 between 5 and 6
values : ℕ → ℕ → Case
values p d =
    record {
      n = 1;
      t = 0;
      opening = 0;
      records = start_with 1 p d ∷ close 1 ∷ [];
      answers = 0 ∷ 0 ∷ [];
      closings = at 2 LastRound ∷ [];
      lines = line 1 1 false true 1 (entry_with p d ∷ []) ∷ [];
    }

-- one more diet portion than portions; then 5 before 15 (no process 3), and 15 before 6 and before 7
too_much : Case
too_much =
    record {
      n = 2;
      t = 1;
      opening = 0;
      records =
          start_with 1 0 1 ∷ start_with 1 65534 65535 ∷ start_with 1 255 256 ∷ start_with 3 3 4 ∷ start_with 1 40 3
          ∷ start_with 1 3 4
          ∷ start_with 1 4 4 ∷ crash 2 ∷ start_with 2 3 4 ∷ start_with 2 4 4 ∷ [];
      answers = 15 ∷ 15 ∷ 15 ∷ 5 ∷ 0 ∷ 15 ∷ 7 ∷ 0 ∷ 15 ∷ 6 ∷ [];
      closings = [];
      lines = line 1 1 false false 3 (entry_with 40 3 ∷ None ∷ []) ∷ line 2 0 true false 0 (None ∷ None ∷ []) ∷ [];
    }

-- a bench that no schedule reaches: process 1 has started with 3 portions and 5 diet portions. It passes 2 and is
-- stepped, and the value is filled in and decided on
pub held : Bench
held = effect (StartOf 0 (3 + 65536 * 5)) (opened_of 2 1)

pub held_case : Case
held_case =
    record {
      n = 2;
      t = 1;
      opening = 0;
      records =
          start_with 1 3 5 ∷ start_with 1 5 3 ∷ start_with 2 25 0 ∷ send 1 2 ∷ send 2 1 ∷ arrive 1 2 1 ∷ arrive 2 1 1
          ∷ close 2 ∷ close 1 ∷ send 2 1 ∷ arrive 2 1 2
          ∷ send 1 2 ∷ close 1 ∷ [];
      answers = 15 ∷ 7 ∷ 0 ∷ 0 ∷ 0 ∷ 0 ∷ 0 ∷ 0 ∷ 0 ∷ 0 ∷ 0 ∷ 0 ∷ 0 ∷ [];
      closings = at 8 NextRound ∷ at 9 NextRound ∷ at 13 LastRound ∷ [];
      lines =
          line 1 2 false true 3 (entry_with 3 5 ∷ entry_with 25 0 ∷ [])
          ∷ line 2 2 false false 3 (entry_with 3 5 ∷ entry_with 25 0 ∷ []) ∷ [];
    }

pub table : List Case
table =
    case1 ∷ case2 ∷ case3 ∷ case4and6 ∷ sizes 16 15 0 ∷ sizes 17 0 1 ∷ sizes 0 0 1 ∷ case7 ∷ case8 ∷ case9 ∷ case10
    ∷ values 0 0 ∷ values 65535 0 ∷ values 65535 65535 ∷ values 1 1 ∷ too_much ∷ []

-- ---- request C-17: records by the old rules, what carrying answers then, records by those of now, what it answers
-- again, and some processes at the end
pub record Week : Type 0 where
  pub n : ℕ
  pub t : ℕ
  pub old : List (List ℕ)
  pub old_answers : List ℕ
  pub carried : ℕ
  pub new : List (List ℕ)
  pub new-answers : List ℕ
  pub again : ℕ
  pub lines : List Line

pub week_passes : Week → Bool
week_passes w =
    let s = opened_of w.n w.t in
    let c = end_of v1 s w.old in
    let e = end_of v2 c w.new in
    same_list (answers_of v1 s w.old) w.old_answers
    and (same (carry_refusal c) w.carried
    and (same_list (answers_of v2 c w.new) w.new-answers
    and (same (carry_refusal e) w.again and every_in (same_line e) w.lines)))

-- case 4 with a larger value, carried after its fifth record: a message is on its way, and none is lost
carried_over : Week
carried_over =
    record {
      n = 2;
      t = 1;
      old = start 1 40 ∷ start 2 65535 ∷ send 1 2 ∷ send 2 1 ∷ arrive 1 2 1 ∷ [];
      old_answers = 0 ∷ 0 ∷ 0 ∷ 0 ∷ 0 ∷ [];
      carried = 0;
      new = arrive 2 1 1 ∷ close 1 ∷ crash 2 ∷ send 1 2 ∷ close 1 ∷ suspect 1 2 ∷ close 1 ∷ [];
      new-answers = 0 ∷ 0 ∷ 0 ∷ 0 ∷ 8 ∷ 0 ∷ 0 ∷ [];
      again = 0;
      lines =
          line 1 2 false true 3 (entry_with 40 0 ∷ entry_with 65535 0 ∷ [])
          ∷ line 2 1 true false 3 (None ∷ entry_with 65535 0 ∷ []) ∷ [];
    }

-- the value 65,536 is refused by 16 where its start was accepted, also once its process has crashed
too_large : List (List ℕ) → List ℕ → Week
too_large more answers =
    record {
      n = 2;
      t = 1;
      old = start_with 1 0 1 ∷ more;
      old_answers = 0 ∷ answers;
      carried = 16;
      new = [];
      new-answers = [];
      again = 16;
      lines = [];
    }

-- and not where it was refused, by 6 and by 7. The same record is then refused by 15; and a carried bench in which a
-- process has diet portions is not carried again
unheld : Week
unheld =
    record {
      n = 3;
      t = 1;
      old = crash 1 ∷ start_with 1 0 1 ∷ start 2 5 ∷ start_with 2 0 1 ∷ [];
      old_answers = 0 ∷ 6 ∷ 0 ∷ 7 ∷ [];
      carried = 0;
      new = start_with 1 0 1 ∷ start_with 2 0 1 ∷ start_with 3 25 3 ∷ [];
      new-answers = 15 ∷ 15 ∷ 0 ∷ [];
      again = 16;
      lines = line 2 1 false false 7 (None ∷ entry_with 5 0 ∷ None ∷ []) ∷ [];
    }

pub weeks : List Week
weeks = carried_over ∷ too_large [] [] ∷ too_large (crash 1 ∷ []) (0 ∷ []) ∷ unheld ∷ []

-- states that no schedule reaches: 2 before 16; 16 by a row alone, of a round that is not open; words under absent
-- entries, which do not count
pub states_pass : Bool
states_pass =
    let s = opened_of 2 1 in
    same (carry_refusal (with_crashed (with_sent s 0 1 (one_of 0 65536)) 5)) 2
    and (same (carry_refusal (with_sent s 1 9 (one_of 0 65536))) 16
    and same (carry_refusal (with_sent s 0 1 (record { present = 2; values = 65536 ∷ 65535 ∷ 65536 ∷ [] }))) 0)

-- every case passes: the checker computes it from the definitions
pub cases_hold : (every_in passes table and (passes_from held held_case and (every_in week_passes weeks and states_pass)))
    ≡ true
unfolding bytes start_with start send arrive close crash suspect answers_of told closings_of end_of same_bool same_list
    same_closings same_entries one_less same_line passes_from passes
    round3 no_refusal all_three case1 case2 case3 case4and6 sizes case7 case8 case9 case10 values too_much held held_case
    table week_passes carried_over too_large unheld weeks states_pass
    has insert_of remove_of union_of intersection_of difference_of all_of size_of ones ◌and◌ ◌or◌ same less select
    portions_of diet_of entry_of same_entry diet_fits each every nothing_of one_of filled_word fill_of fill_from same_to all_same
    idle_of has_decided takes_part open_round_of start_of keeps receive_of arrived_of due_of next_of peers_of filled_of agreed_of
    closing_of closing_number opens_next decides_of owed_of decide_of advance_of close_of adopt_of message_of send_of suspect_of
    process_at sent_at transit_at crashed_at with_process with_sent with_transit with_crashed opened_of opens every_in within
    sound_data sound_process sound_of
    word_of one_to uses_b fields message_from event_of parts_of value_of read_of
    start_fits check_diet decode_of check number_of actor is_crash passes7 passes8 passes9 refuses refuses_decoded
    opens_round rows_at sends arrives closes_as effect closing_at last_of decode_as refusal_by
    event_in accepted_one after_events closing_from step_of plain_data plain_process plain_bench carry_refusal
cases_hold = refl
