-- What demand 3 speaks of (document 01): lists of calls, the history that they make,
-- and what the rules give over a history.
use Rattle.std.specs.Prelude.{List, [], ◌∷◌, ◌++◌, Bool, false, ℕ, ◌+◌, drop, ⊤, Option, Some, None, Result}
use Rattle.std.specs.Option.{option_or, option_map_or}
use Rattle.sets.specs.Truth.{◌and◌, ◌or◌, same, bit, select}
use Rattle.global_data.specs.declared.GlobalData.{GlobalData}
use Rattle.global_data.specs.GlobalData.{value_in, Entry}
use Rattle.refusal.specs.declared.Refusal.{Refusal}
use Rattle.process.specs.declared.Closing.{Closing}
use Rattle.process.specs.Steps.{takes_part, filled_of, decides_of}
use Rattle.bench.specs.declared.Bench.{Bench}
use Rattle.bench.specs.declared.Counters.{Counters}
use Rattle.bench.specs.declared.Cause.{Cause}
use Rattle.bench.specs.declared.Message.TheVariants.{Estimate, Decision}
use Rattle.bench.specs.declared.Event.{Event}
use Rattle.bench.specs.declared.Event.TheVariants.{Start, Send, Arrive, Close, Crash, Suspect}
use Rattle.bench.specs.State.{process_at, opened_of}
use Rattle.bench.specs.Refuse.{actor, is_crash}
use Rattle.bench.specs.Effect.{effect, rows_at}
use Rattle.bench.specs.Calls.{accepted_one, after_events, accepted_in, step_by, tally_by, run_by}
use Rattle.bench.specs.Record.{by_kind, Form}

-- ---- the calls of a list, each by the rules of a form (request C-17: the library of now has v2, that of before
-- request C-15 had v1): one record, with any bytes and any tally; or a run, with any bytes and any budget. Calls that
-- only read may stand between, carrying a bench from the one form to the other among them: it writes nothing.
pub data Call : Type 0 where
  step : Form → List ℕ → Counters → Call
  run : Form → List ℕ → ℕ → Call

-- what a call hands back besides the bench: the answer, the tally and how the round ended; or how many were
-- accepted, the cause, how the last round ended that it closed, and the bytes not taken
pub data Given : Type 0 where
  stepped : Result ⊤ Refusal → Counters → Option Closing → Given
  ran : ℕ → Cause → Option Closing → List ℕ → Given

-- ---- the calls as their contracts have them: the bench that a call leaves, and what it gives
unfoldable pub after_call : Call → Bench → Bench
after_call (step f bytes tally) s = (step_by f s bytes).bench
after_call (run f bytes budget) s = (run_by f budget bytes s).bench

unfoldable pub given_by : Call → Bench → Given
given_by (step f bytes tally) s =
    let e = step_by f s bytes in
    stepped e.answer (tally_by f s bytes tally) e.closing
given_by (run f bytes budget) s =
    let e = run_by f budget bytes s in
    ran e.accepted e.cause e.closing (drop e.taken bytes)

-- one after the other, each on the bench that the one before left
unfoldable pub after_calls : Bench → List Call → Bench
after_calls s [] = s
after_calls s (c ∷ calls) = after_calls (after_call c s) calls

unfoldable pub answers : Bench → List Call → List Given
answers s [] = []
answers s (c ∷ calls) = given_by c s ∷ answers (after_call c s) calls

-- ---- the history: the accepted records in order, worked from what the calls are given
-- where the protocol steps take the opened bench over the history h
unfoldable pub after_history : ℕ → ℕ → List Event → Bench
after_history n t h = after_events (opened_of n t) h

-- what a call adds: the records that the rules accept on the bench s
unfoldable pub accepted_by : Call → Bench → List Event
accepted_by (step f bytes tally) s = accepted_one f s bytes
accepted_by (run f bytes budget) s = accepted_in f budget bytes s

-- the history h with what a call adds at the bench to which h leads
unfoldable pub add_call : ℕ → ℕ → List Event → Call → List Event
add_call n t h c = h ++ accepted_by c (after_history n t h)

-- the history h with what some calls add, one after the other
unfoldable pub history : ℕ → ℕ → List Event → List Call → List Event
history n t h [] = h
history n t h (c ∷ calls) = history n t (add_call n t h c) calls

-- and what the rules give each of them where the history before it leads
unfoldable pub ruled : ℕ → ℕ → List Event → List Call → List Given
ruled n t h [] = []
ruled n t h (c ∷ calls) = given_by c (after_history n t h) ∷ ruled n t (add_call n t h c) calls

-- ---- decisions, worked over a history from the bench s
-- on what a record decides its acting process, if it does: step 5, a close that decides, or step 7, a decision taken
-- over
unfoldable pub decides_at : Event → Bench → Option GlobalData
decides_at (Start a v) s = None
decides_at (Send a b) s = None
decides_at (Arrive a b (Estimate r)) s = None
decides_at (Arrive a b Decision) s = select (takes_part (process_at s b)) (Some (process_at s a).estimate) None
decides_at (Close a) s =
    let p = process_at s a in
    let rows = rows_at s p.round in
    select (decides_of s.n s.t a rows p) (Some (filled_of a rows p)) None
decides_at (Crash a) s = None
decides_at (Suspect a b) s = None

-- on what x has decided: by the first of its records that decides it
unfoldable pub outcome : Bench → List Event → ℕ → Option GlobalData
outcome s [] x = None
outcome s (e ∷ h) x = option_or (select (same (actor e) x) (decides_at e s) None) (outcome (effect e s) h x)

-- the records before the first decision, all of them where there is none
unfoldable pub before_decision : Bench → List Event → List Event
before_decision s [] = []
before_decision s (e ∷ h) = option_map_or (λ g. []) (decides_at e s) (e ∷ before_decision (effect e s) h)

-- ---- starts, crashes and rounds in a history
-- the value of the start of k, portions and diet portions; absent where it has not started
unfoldable pub started_with : List Event → ℕ → Entry
started_with [] k = None
started_with (e ∷ h) k =
    let rest = started_with h k in
    by_kind (λ a v. select (same a k) (Some (value_in v)) rest) (λ a. rest) rest rest e

-- the crash of k stands there
unfoldable pub crashed_in : List Event → ℕ → Bool
crashed_in [] k = false
crashed_in (e ∷ h) k = (is_crash e and same (actor e) k) or crashed_in h k

-- how many crashes there are: f
unfoldable pub crash_count : List Event → ℕ
crash_count [] = 0
crash_count (e ∷ h) = bit (is_crash e) + crash_count h

-- how many rounds a record opens at its acting process: round 1 a start, the next a close that does not decide it
unfoldable pub opens_at : Event → Bench → ℕ
opens_at e s = by_kind (λ a v. 1) (λ a. option_map_or (λ g. 0) (decides_at e s) 1) 0 0 e

-- how many rounds x has opened
unfoldable pub rounds : Bench → List Event → ℕ → ℕ
rounds s [] x = 0
rounds s (e ∷ h) x = select (same (actor e) x) (opens_at e s) 0 + rounds (effect e s) h x
