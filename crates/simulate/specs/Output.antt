-- What the program writes for any input: the opening record, then the records one by one,
-- each answered at the bench that the ones before it left, then the processes.
-- A refused record leaves the bench as it is, and the next one is taken.
use Rattle.std.specs.Prelude.{List, ◌++◌, ℕ, ◌+◌, ◌/◌, length, get_or, take, drop, Result, Ok, Err}
use Rattle.sets.specs.Truth.{◌and◌, same, select, check}
use Rattle.refusal.specs.declared.Refusal.{Refusal}
use Rattle.refusal.specs.Numbers.{refusal_number, refused}
use Rattle.bench.specs.declared.Bench.{Bench}
use Rattle.bench.specs.Record.{word_of}
use Rattle.bench.specs.Refuse.{refusal}
use Rattle.bench.specs.Calls.{open_of}
use Rattle.sets.specs.Lists.{joined}
use Rattle.bench.specs.OneByOne.{steps, record_at}
use Rattle.text.specs.Text.{line_of, processes_text}

-- ---- the opening record: 3, 4 (kind not 0), 5 (r or value not 0), or 0
unfoldable pub opening_refusal : List ℕ → ℕ
opening_refusal l =
    check (same (length l) 8) 3
    (check (same (get_or l 0 0) 0) 4
    (check (same (get_or l 3 0) 0 and same (word_of (get_or l 4 0) (get_or l 5 0) (get_or l 6 0) (get_or l 7 0)) 0) 5 0))

-- then 1: a is n, and b is t
unfoldable pub opening_of : List ℕ → Result Bench Refusal
opening_of l =
    select (same (opening_refusal l) 0) (open_of (get_or l 1 0) (get_or l 2 0)) (Err (refused (opening_refusal l)))

-- ---- the records: a last part shorter than 8 bytes is one too
unfoldable pub records_in : List ℕ → ℕ
records_in l = (length l + 7) / 8

-- the answer to record i of l, from 0: 0 or the refusal
unfoldable pub answer_at : Bench → List ℕ → ℕ → ℕ
answer_at s l i = refusal (steps i s l) (record_at i l)

-- the lines of the records of l, numbered from `first`
unfoldable pub line_at : Bench → ℕ → List ℕ → ℕ → List ℕ
line_at s first l i = line_of (first + i) (answer_at s l i)

unfoldable pub lines_of : Bench → ℕ → List ℕ → List ℕ
lines_of s first l = joined (records_in l) (line_at s first l)

-- the bench after them
unfoldable pub after_all : Bench → List ℕ → Bench
after_all s l = steps (records_in l) s l

-- ---- the whole output
unfoldable pub written_after : Result Bench Refusal → List ℕ → List ℕ
written_after (Ok s) l = lines_of s 1 l ++ processes_text (after_all s l)
written_after (Err r) l = line_of 0 (refusal_number r)

unfoldable pub output_of : List ℕ → List ℕ
output_of input = written_after (opening_of (take 8 input)) (drop 8 input)
