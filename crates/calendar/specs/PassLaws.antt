-- One pass over the records, in the words of the code's contracts. The laws are in ../proofs/PassLaws.antt.
use Rattle.std.specs.Prelude.{◌≡◌, Bool, true, false, not, List, ℕ, ◌+◌, ◌-◌, ◌<◌, length, get_or, Result, MatchResult}
use Rattle.sets.specs.Lists.{some_to}
use Rattle.sets.specs.Set.{has, union_of, difference_of}
use Rattle.sets.specs.Truth.{◌and◌, same, less, one_to}
use Rattle.refusal.specs.declared.Refusal.{Refusal}
use Rattle.refusal.specs.declared.Refusal.TheVariants.{Calendar}
use Rattle.calendar.specs.declared.Kind.{Kind}
use Rattle.calendar.specs.declared.Kind.TheVariants.{Term, Closed}
use Rattle.calendar.specs.declared.Marks.{Marks}
use Rattle.calendar.specs.declared.Period.{Period}
use Rattle.calendar.specs.Calendar.{Record, kind_number, period_at, periods_in, well_formed, has_day}
use Rattle.calendar.specs.Calendar.{whole_records, all_well_formed}

-- ---- a record's bytes read

-- the result is the kind with this number, or 13 for a number that no kind has
abbrev pub DecodesKind : ℕ → Result Kind Refusal → Type 0
DecodesKind number r =
    MatchResult r (λ kind. kind_number kind ≡ number) (λ e. (e ≡ Calendar) × (one_to 2 number ≡ false))

-- the record that a period was read from
abbrev pub record_of : Period → Record
record_of p = record { site = p.site; kind = kind_number p.kind; first = p.first; last = p.last; rest = 0 }

-- the result is the period of a well-formed record, or 13 for another
abbrev pub DecodesRecord : Record → Result Period Refusal → Type 0
DecodesRecord p r =
    MatchResult r (λ period. (record_of period ≡ p) × (well_formed p ≡ true))
    (λ e. (e ≡ Calendar) × (well_formed p ≡ false))

-- ---- the pass

-- a day lies in one of the first k records that is of a kind, for a site
unfoldable pub lies_in_to : List ℕ → ℕ → Kind → ℕ → ℕ → Bool
lies_in_to calendar k kind site day = some_to k (λ j. has_day kind site day (period_at calendar j))

abbrev pub no_marks : Marks
no_marks = record { term = 0; closed = 0 }

-- the days that are marked by records of a kind
abbrev pub marked_by : Kind → Marks → ℕ
marked_by Term m = m.term
marked_by Closed m = m.closed

-- some days more
abbrev pub with_days : Marks → Kind → ℕ → Marks
with_days m Term days = record { term = union_of m.term days; closed = m.closed }
with_days m Closed days = record { term = m.term; closed = union_of m.closed days }

-- the pass has looked at j records: of each kind and site those of Monday to Friday that lie in one of them; site 1 is
-- at 0
pub record Marked (calendar : List ℕ) (monday j : ℕ) (sites : List Marks) : Type 0 where
  pub long : length sites ≡ 16
  pub marked : (kind : Kind) (k i : ℕ) → k < 16
      → has (marked_by kind (get_or sites k no_marks)) i
      ≡ (less i 5 and lies_in_to calendar j kind (k + 1) (monday + i))

-- it has looked at all records, or met a fault
abbrev pub MarksAll : List ℕ → ℕ → Result (List Marks) Refusal → Type 0
MarksAll calendar monday r =
    MatchResult r
    (λ sites. (whole_records calendar ≡ true) × (all_well_formed calendar ≡ true)
    × Marked calendar monday (periods_in calendar) sites)
    (λ e. (e ≡ Calendar) × ((whole_records calendar and all_well_formed calendar) ≡ false))

-- ---- after it

-- a day of term that is not closed
unfoldable pub some_day : Marks → Bool
some_day m = not (same (difference_of m.term m.closed) 0)

-- a site has such a day
abbrev pub open_in : List Marks → ℕ → Bool
open_in sites site = some_day (get_or sites (site - 1) no_marks)
