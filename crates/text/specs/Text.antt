-- The text that the program writes (document 01, "Lines are .."): numbers in decimal,
-- a record's line and a process's line, in ASCII.
use Rattle.std.specs.Prelude.{Bool, Option, None, Some, List, [], ◌∷◌, ◌++◌, ℕ, zero, suc, ◌+◌, ◌/◌, ◌%◌}
use Rattle.sets.specs.Truth.{bit, less, select}
use Rattle.refusal.specs.declared.Refusal.{Refusal}
use Rattle.refusal.specs.Numbers.{refusal_number}
use Rattle.global_data.specs.declared.Value.{Value}
use Rattle.global_data.specs.GlobalData.{Entry, entry_of}
use Rattle.process.specs.declared.Process.{Process}
use Rattle.process.specs.Steps.{has_decided}
use Rattle.bench.specs.declared.Bench.{Bench}
use Rattle.bench.specs.State.{process_at, crashed_at}
use Rattle.sets.specs.Lists.{joined}

-- at most k digits of x, the last one last
unfoldable pub digits_of : ℕ → ℕ → List ℕ
digits_of zero x = []
digits_of (suc k) x = select (less x 10) ((48 + x) ∷ []) (digits_of k (x / 10) ++ ((48 + x % 10) ∷ []))

-- all of them, with no zero in front: x has no more than x + 1 digits
unfoldable pub decimal : ℕ → List ℕ
decimal x = digits_of (suc x) x

-- a number after a space
unfoldable pub field_of : ℕ → List ℕ
field_of x = (32 ∷ []) ++ decimal x

abbrev pub newline : List ℕ
newline = 10 ∷ []

-- 0 where nothing is refused, or the refusal's number
abbrev pub shown_refusal : Option Refusal → ℕ
shown_refusal None = 0
shown_refusal (Some r) = refusal_number r

-- the line of record k: its number, and 0 or the refusal
unfoldable pub line_of : ℕ → ℕ → List ℕ
line_of k refusal = decimal k ++ (field_of refusal ++ newline)

-- `40/3` has 40 portions and 3 diet portions
unfoldable pub value_text : Value → List ℕ
value_text v = decimal v.portions ++ ((47 ∷ []) ++ decimal v.diet)

-- an entry after a space: `-` is an absent one
abbrev pub entry_text : Entry → List ℕ
entry_text None = 32 ∷ 45 ∷ []
entry_text (Some v) = (32 ∷ []) ++ value_text v

-- the line of process a, from 0, of n: `T`, its number from 1, round, stopped, decided,
-- and the entries of its estimate, which is its decision once it has decided
unfoldable pub process_text : ℕ → ℕ → Bool → Process → List ℕ
process_text n a crashed p =
    (84 ∷ [])
    ++ (field_of (a + 1)
    ++ (field_of p.round
    ++ (field_of (bit crashed)
    ++ (field_of (bit (has_decided p)) ++ (joined n (λ k. entry_text (entry_of p.estimate k)) ++ newline)))))

unfoldable pub processes_text : Bench → List ℕ
processes_text s = joined s.n (λ a. process_text s.n a (crashed_at s a) (process_at s a))
