-- Document 01's run as a loop, turn by turn (`run_from`), and one record the same way: `run_loop` and `step_is` of
-- RunLaws show that the calls' definitions are these. No claim needs them.
use Rattle.std.specs.Prelude.{List, ℕ, zero, suc, ◌+◌, length, take, drop, Option, None, Result, Ok, Err}
use Rattle.sets.specs.Truth.{same, select}
use Rattle.process.specs.declared.Closing.{Closing}
use Rattle.refusal.specs.declared.Refusal.{Refusal}
use Rattle.refusal.specs.Numbers.{refused}
use Rattle.bench.specs.declared.Bench.{Bench}
use Rattle.bench.specs.declared.Cause.{Cause}
use Rattle.bench.specs.declared.Cause.TheVariants.{Empty, Spent, Refused}
use Rattle.bench.specs.declared.Ended.{Ended}
use Rattle.bench.specs.declared.Event.{Event}
use Rattle.bench.specs.Record.{Form, v2, decode_as}
use Rattle.bench.specs.Refuse.{refusal_by}
use Rattle.bench.specs.Effect.{effect}
use Rattle.bench.specs.Closings.{closing_at, last_of}

-- ---- one record: what it does where it is accepted, of what some bytes are decoded to
unfoldable pub effect_decoded : Result Event Refusal → Bench → Bench
effect_decoded (Ok e) s = effect e s
effect_decoded (Err r) s = s

-- of any bytes that are accepted
unfoldable pub effect_by : Form → Bench → List ℕ → Bench
effect_by f s bytes = effect_decoded (decode_as f s.n s.t bytes) s

unfoldable pub effect_of : Bench → List ℕ → Bench
effect_of s bytes = effect_by v2 s bytes

-- how it ends a round: of what some bytes are decoded to
unfoldable pub closing_decoded : Result Event Refusal → Bench → Option Closing
closing_decoded (Ok e) s = closing_at e s
closing_decoded (Err r) s = None

-- of any bytes: none where they are refused
unfoldable pub ends_by : Form → Bench → List ℕ → Option Closing
ends_by f s bytes =
    select (same (refusal_by f s bytes) 0) (closing_decoded (decode_as f s.n s.t bytes) s) None

unfoldable pub closing_in : Bench → List ℕ → Option Closing
closing_in s bytes = ends_by v2 s bytes

-- the bench after one record: a refused one leaves it as it is
abbrev pub after_by : Form → Bench → List ℕ → Bench
after_by f s bytes = select (same (refusal_by f s bytes) 0) (effect_by f s bytes) s

-- ---- how a run ended
unfoldable pub ended_of : Bench → ℕ → Cause → Option Closing → ℕ → Ended
ended_of s accepted cause closing taken =
    record { bench = s; accepted = accepted; cause = cause; closing = closing; taken = taken }

-- with a budget, the bytes not yet taken, what was accepted and taken so far, and the last closing so far.
-- A last part shorter than 8 bytes is a record of that length.
unfoldable pub run_from : Form → ℕ → List ℕ → Bench → ℕ → Option Closing → ℕ → Ended
run_from f zero l s accepted closing taken =
    ended_of s accepted (select (same (length l) 0) Empty Spent) closing taken
run_from f (suc budget) l s accepted closing taken =
    let r = refusal_by f s (take 8 l) in
    let c = last_of closing (ends_by f s (take 8 l)) in
    select (same (length l) 0) (ended_of s accepted Empty closing taken)
    (select (same r 0) (run_from f budget (drop 8 l) (effect_by f s (take 8 l)) (accepted + 1) c (taken + 8))
    (ended_of s accepted (Refused (refused r)) closing taken))
