-- The calls (document 01, "The other calls"): open, one record with the tally, run, global data of a process.
-- The list in transit: TransitList. Carrying: Carry.
use Rattle.std.specs.Prelude.{List, [], ◌∷◌, ◌++◌, Bool, false, not, ℕ, zero, suc, ◌+◌, ◌-◌, ◌*◌, get_or, length, take, drop, ⊤, Option, None, Result, Ok, Err}
use Rattle.sets.specs.Lists.{each}
use Rattle.sets.specs.Set.{has}
use Rattle.sets.specs.Truth.{◌and◌, same, less, select, one_to, check}
use Rattle.global_data.specs.declared.GlobalData.{GlobalData}
use Rattle.process.specs.declared.Closing.{Closing}
use Rattle.refusal.specs.declared.Refusal.{Refusal}
use Rattle.refusal.specs.declared.Refusal.TheVariants.{Size, Damaged}
use Rattle.refusal.specs.Numbers.{refused}
use Rattle.process.specs.Steps.{has_decided}
use Rattle.bench.specs.declared.Bench.{Bench}
use Rattle.bench.specs.declared.Opened.{Opened}
use Rattle.bench.specs.declared.Cause.{Cause}
use Rattle.bench.specs.declared.Cause.TheVariants.{Empty, Spent, Refused}
use Rattle.bench.specs.declared.Stepped.{Stepped}
use Rattle.bench.specs.declared.Counters.{Counters}
use Rattle.bench.specs.declared.Ended.{Ended}
use Rattle.bench.specs.declared.Event.{Event}
use Rattle.bench.specs.State.{process_at, opened_of}
use Rattle.bench.specs.Sound.{opens, sound_of}
use Rattle.bench.specs.Record.{Form, v2, decode_as}
use Rattle.bench.specs.Refuse.{is_crash, refusal_by}
use Rattle.bench.specs.Effect.{effect}
use Rattle.bench.specs.Closings.{closing_at, last_of}

-- the answer with a number: 0 is accepted
unfoldable pub answer_of : ℕ → Result ⊤ Refusal
answer_of k = select (same k 0) (Ok tt) (Err (refused k))

-- ---- open: the opened bench, or refusal 1
unfoldable pub open_of : ℕ → ℕ → Result Bench Refusal
open_of n t = select (opens n t) (Ok (opened_of n t)) (Err Size)

-- the same, with a bench in any case: refused, it is all zero
unfoldable pub open_or_zero_of : ℕ → ℕ → Opened
open_or_zero_of n t =
    select (opens n t) (record { answer = Ok tt; bench = opened_of n t })
    (record { answer = Err Size; bench = opened_of 0 0 })

-- ---- what is accepted, as events: of one record the event that it is decoded to, or nothing
unfoldable pub event_in : Result Event Refusal → List Event
event_in (Ok e) = e ∷ []
event_in (Err r) = []

unfoldable pub accepted_one : Form → Bench → List ℕ → List Event
accepted_one f s bytes = select (same (refusal_by f s bytes) 0) (event_in (decode_as f s.n s.t bytes)) []

-- where the protocol steps take a bench over some events
unfoldable pub after_events : Bench → List Event → Bench
after_events s [] = s
after_events s (e ∷ h) = after_events (effect e s) h

-- how the last close among them ended; none where there is none
unfoldable pub closing_from : Bench → List Event → Option Closing
closing_from s [] = None
closing_from s (e ∷ h) = last_of (closing_at e s) (closing_from (effect e s) h)

-- of a schedule its records one by one, until the bytes are out, the budget is spent or one is refused. A last part
-- shorter than 8 bytes is a record of that length, and no bytes are one too: both are refused, by 3 or before that by 2
unfoldable pub accepted_in : Form → ℕ → List ℕ → Bench → List Event
accepted_in f zero l s = []
accepted_in f (suc budget) l s =
    let h = accepted_one f s (take 8 l) in
    select (same (length h) 0) [] (h ++ accepted_in f budget (drop 8 l) (after_events s h))

-- ---- one record
abbrev pub step_by : Form → Bench → List ℕ → Stepped
step_by f s bytes =
    let h = accepted_one f s bytes in
    record { answer = answer_of (refusal_by f s bytes); closing = closing_from s h; bench = after_events s h }

unfoldable pub step_of : Bench → List ℕ → Stepped
step_of s bytes = step_by v2 s bytes

-- the bench after it: a refused one leaves it as it is
unfoldable pub after_record : Bench → List ℕ → Bench
after_record s bytes = (step_of s bytes).bench

-- ---- the tally: accepted, refused and crashes, each of 32 bits and staying at its largest value
unfoldable pub raised : Bool → ℕ → ℕ
raised counts x = select (counts and less x 4294967295) (x + 1) x

-- after a record, by whether it was accepted and whether it is a crash
unfoldable pub tallied : Bool → Bool → Counters → Counters
tallied ok crash c =
    record {
      accepted = raised ok c.accepted;
      refused = raised (not ok) c.refused;
      crashes = raised (ok and crash) c.crashes;
    }

-- what some bytes are decoded to is a crash
unfoldable pub crash_decoded : Result Event Refusal → Bool
crash_decoded (Ok e) = is_crash e
crash_decoded (Err r) = false

abbrev pub tally_by : Form → Bench → List ℕ → Counters → Counters
tally_by f s bytes c = tallied (same (refusal_by f s bytes) 0) (crash_decoded (decode_as f s.n s.t bytes)) c

unfoldable pub tally_of : Bench → List ℕ → Counters → Counters
tally_of s bytes c = tally_by v2 s bytes c

-- ---- run: why it ends at a bench with that budget and those bytes left: a damaged bench is refused first; then the
-- schedule is empty, the budget spent or a record refused, tested in that order
unfoldable pub cause_of : Form → ℕ → List ℕ → Bench → Cause
cause_of f left rest s =
    select (not (sound_of s)) (Refused Damaged)
    (select (same (length rest) 0) Empty
    (select (same left 0) Spent (Refused (refused (refusal_by f s (take 8 rest))))))

-- all that it gives is read off the events that it accepts, each of which was a record of 8 bytes. That this is what
-- document 01's loop does turn by turn is the law `run_loop` (RunLaws)
abbrev pub run_by : Form → ℕ → List ℕ → Bench → Ended
run_by f budget l s =
    let h = accepted_in f budget l s in
    let taken = 8 * length h in
    let end = after_events s h in
    record {
      bench = end;
      accepted = length h;
      cause = cause_of f (budget - length h) (drop taken l) end;
      closing = closing_from s h;
      taken = taken;
    }

unfoldable pub run_of : ℕ → List ℕ → Bench → Ended
run_of budget l s = run_by v2 budget l s

-- ---- global data of a process (document 01: sheet of a terminal), written to a lent slice:
-- absent as 0, words past n untouched
unfoldable pub word_at : GlobalData → ℕ → ℕ
word_at g k = select (has g.present k) (get_or g.values k 0) 0

-- 2, 5, 10, 11, or 0
unfoldable pub show_refusal : Bench → ℕ → List ℕ → ℕ
show_refusal s x out =
    check (sound_of s) 2
    (check (one_to s.n x) 5
    (check (not (less (length out) s.n)) 10 (check (has_decided (process_at s (x - 1))) 11 0)))

unfoldable pub show_of : Bench → ℕ → List ℕ → Result ℕ Refusal
show_of s x out =
    let r = show_refusal s x out in
    select (same r 0) (Ok (process_at s (x - 1)).estimate.present) (Err (refused r))

unfoldable pub shown_in : Bench → ℕ → List ℕ → List ℕ
shown_in s x out =
    select (same (show_refusal s x out) 0) (each s.n (word_at (process_at s (x - 1)).estimate) ++ drop s.n out) out
