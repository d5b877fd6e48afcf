-- What is turned away (document 01): the number of the first check that fails, in the order of the numbers, with 15
-- after 5 (request C-15), or 0.
use Rattle.std.specs.Prelude.{List, Bool, true, false, not, ℕ, Result, Ok, Err}
use Rattle.sets.specs.Set.{has, size_of, empty_set}
use Rattle.sets.specs.Truth.{◌and◌, ◌or◌, same, less, check}
use Rattle.process.specs.Steps.{takes_part, due_of}
use Rattle.refusal.specs.declared.Refusal.{Refusal}
use Rattle.refusal.specs.Numbers.{refusal_number}
use Rattle.bench.specs.declared.Bench.{Bench}
use Rattle.bench.specs.declared.Message.{Message}
use Rattle.bench.specs.declared.Message.TheVariants.{Estimate, Decision}
use Rattle.bench.specs.declared.Event.{Event}
use Rattle.bench.specs.declared.Event.TheVariants.{Start, Send, Arrive, Close, Crash, Suspect}
use Rattle.bench.specs.State.{process_at, transit_at, crashed_at}
use Rattle.bench.specs.Sound.{sound_of}
use Rattle.bench.specs.Record.{by_kind, Form, v2, decode_as}

-- a message's number in transit: 0 a decision, else the round
unfoldable pub number_of : Message → ℕ
number_of (Estimate r) = r
number_of Decision = 0

-- the acting process: b of kind 3, else a
unfoldable pub actor : Event → ℕ
actor (Start a v) = a
actor (Send a b) = a
actor (Arrive a b m) = b
actor (Close a) = a
actor (Crash a) = a
actor (Suspect a b) = a

-- it is a crash
unfoldable pub is_crash : Event → Bool
is_crash e = by_kind (λ a v. false) (λ a. false) true false e

-- ---- the checks 7, 8 and 9
-- 7: start a second time; nothing owed to b; not in transit; suspecting a running or already suspected process;
-- close unstarted, decided or owing
unfoldable pub passes7 : Event → Bench → Bool
passes7 (Start a v) s = same (process_at s a).round 0
passes7 (Send a b) s = has (process_at s a).outbox b
passes7 (Arrive a b m) s = has (transit_at s a (number_of m)) b
passes7 (Close a) s = takes_part (process_at s a) and same (process_at s a).outbox empty_set
passes7 (Crash a) s = true
passes7 (Suspect a b) s = crashed_at s b and not (has (process_at s a).suspected b)

-- 8: a close that lacks only an arrival or a suspicion
unfoldable pub passes8 : Event → Bench → Bool
passes8 e s = by_kind (λ a v. true) (λ a. due_of a (process_at s a)) true true e

-- 9: a crash when t or more have crashed
unfoldable pub passes9 : Event → Bench → Bool
passes9 e s = not (is_crash e) or less (size_of s.crashed) s.t

-- 6 to 9, of an event
unfoldable pub refuses : Event → Bench → ℕ
refuses e s =
    check (not (crashed_at s (actor e))) 6 (check (passes7 e s) 7 (check (passes8 e s) 8 (check (passes9 e s) 9 0)))

unfoldable pub refuses_decoded : Result Event Refusal → Bench → ℕ
refuses_decoded (Ok e) s = refuses e s
refuses_decoded (Err r) s = refusal_number r

-- 2 to 9 and 15, of any bytes by the rules of a form
unfoldable pub refusal_by : Form → Bench → List ℕ → ℕ
refusal_by f s bytes = check (sound_of s) 2 (refuses_decoded (decode_as f s.n s.t bytes) s)

unfoldable pub refusal : Bench → List ℕ → ℕ
refusal s bytes = refusal_by v2 s bytes
