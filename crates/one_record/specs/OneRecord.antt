-- The call for one record in the forms by value that `run` allows: the record in the bytes, the answer by the end of a
-- run of it, and the tally by that answer and the record's first byte.
use Rattle.std.specs.Prelude.{List, [], Bool, ℕ, length, get_or, ⊤, Result, Ok, Err}
use Rattle.sets.specs.Truth.{same, select}
use Rattle.refusal.specs.declared.Refusal.{Refusal}
use Rattle.refusal.specs.declared.Refusal.TheVariants.{Length}
use Rattle.bench.specs.declared.Bench.{Bench}
use Rattle.bench.specs.declared.Cause.{Cause}
use Rattle.bench.specs.declared.Cause.TheVariants.{Empty, Spent, Refused}
use Rattle.bench.specs.declared.Counters.{Counters}
use Rattle.bench.specs.declared.Stepped.{Stepped}
use Rattle.bench.specs.declared.Ended.{Ended}
use Rattle.bench.specs.Calls.{step_of, tally_of}
use Rattle.one_record.specs.declared.Counted.{Counted}

-- its 8 bytes; of any other length there is none
unfoldable pub record_in : List ℕ → List ℕ
record_in l = select (same (length l) 8) l []

-- the answer by the end of a run of it: nothing accepted at the end of the schedule, and there was none
unfoldable pub answer_to : ℕ → Cause → Result ⊤ Refusal
answer_to accepted Empty = select (same accepted 0) (Err Length) (Ok tt)
answer_to accepted Spent = Ok tt
answer_to accepted (Refused r) = Err r

unfoldable pub stepped_by : Ended → Stepped
stepped_by e = record { answer = answer_to e.accepted e.cause; closing = e.closing; bench = e.bench }

-- the first byte is the kind of a crash
unfoldable pub crash_byte : List ℕ → Bool
crash_byte l = same (get_or l 0 0) 5

unfoldable pub counted_of : Bench → List ℕ → Counters → Counted
counted_of s l c = record { stepped = step_of s l; counters = tally_of s l c }
