-- Document 01's table of what is turned away: the number of each refusal, and the refusal of each number.
use Rattle.std.specs.Prelude.{List, [], ◌∷◌, ℕ, ◌-◌, get_or}
use Rattle.refusal.specs.declared.Refusal.{Refusal}
use Rattle.refusal.specs.declared.Refusal.TheVariants.{Size, Damaged, Length, Kind, Field, Crashed, NotDue, Waiting}
use Rattle.refusal.specs.declared.Refusal.TheVariants.{CrashLimit, Slice, Undecided, Absent, Calendar, NoSite, Diet, LargeValue}

abbrev pub refusal_number : Refusal → ℕ
refusal_number Size = 1
refusal_number Damaged = 2
refusal_number Length = 3
refusal_number Kind = 4
refusal_number Field = 5
refusal_number Crashed = 6
refusal_number NotDue = 7
refusal_number Waiting = 8
refusal_number CrashLimit = 9
refusal_number Slice = 10
refusal_number Undecided = 11
refusal_number Absent = 12
refusal_number Calendar = 13
refusal_number NoSite = 14
refusal_number Diet = 15
refusal_number LargeValue = 16

-- the table, from 1
abbrev pub table : List Refusal
table =
    Size
    ∷ Damaged
    ∷ Length
    ∷ Kind
    ∷ Field
    ∷ Crashed
    ∷ NotDue
    ∷ Waiting
    ∷ CrashLimit
    ∷ Slice
    ∷ Undecided
    ∷ Absent
    ∷ Calendar
    ∷ NoSite
    ∷ Diet
    ∷ LargeValue
    ∷ []

-- the refusal with a number from 1 to 16
abbrev pub refused : ℕ → Refusal
refused k = get_or table (k - 1) LargeValue
