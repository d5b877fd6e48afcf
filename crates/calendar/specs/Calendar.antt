-- The school calendar (request C-14): which sites take part in a week, and how their processes are numbered.
-- The request says kitchen for site and terminal for process. Sites, and processes, are numbered from 1.
use Rattle.std.specs.Prelude.{Bool, not, List, [], ◌∷◌, ℕ, ◌+◌, ◌-◌, ◌*◌, ◌/◌, ◌%◌, length, get_or, Result, Ok, Err}
use Rattle.sets.specs.Lists.{each, joined, every, some_to, count_to}
use Rattle.sets.specs.Truth.{◌and◌, same, less, one_to, select, check}
use Rattle.refusal.specs.declared.Refusal.{Refusal}
use Rattle.refusal.specs.Numbers.{refused}
use Rattle.calendar.specs.declared.Kind.{Kind}
use Rattle.calendar.specs.declared.Kind.TheVariants.{Term, Closed}
use Rattle.calendar.specs.declared.Numbering.{Numbering}

-- ---- records: 8 bytes, no header: site, kind, first day, last day, two zero bytes

-- two bytes, the low one first
unfoldable pub pair_of : ℕ → ℕ → ℕ
pair_of low high = low + high * 256

-- how many whole records there are
unfoldable pub periods_in : List ℕ → ℕ
periods_in calendar = length calendar / 8

-- a record as its bytes say; `rest` is its last two bytes
pub record Record : Type 0 where
  pub site : ℕ
  pub kind : ℕ
  pub first : ℕ
  pub last : ℕ
  pub rest : ℕ

-- record j, from 0
unfoldable pub period_at : List ℕ → ℕ → Record
period_at calendar j =
    record {
      site = get_or calendar (8 * j) 0;
      kind = get_or calendar (8 * j + 1) 0;
      first = pair_of (get_or calendar (8 * j + 2) 0) (get_or calendar (8 * j + 3) 0);
      last = pair_of (get_or calendar (8 * j + 4) 0) (get_or calendar (8 * j + 5) 0);
      rest = pair_of (get_or calendar (8 * j + 6) 0) (get_or calendar (8 * j + 7) 0);
    }

-- the kinds
abbrev pub kind_number : Kind → ℕ
kind_number Term = 1
kind_number Closed = 2

-- a site 1 to 16, a kind 1 or 2, first day not after last, last bytes zero
unfoldable pub well_formed : Record → Bool
well_formed p = one_to 16 p.site and (one_to 2 p.kind and (not (less p.last p.first) and same p.rest 0))

-- ---- days

-- a record of its own: of this kind, for this site
unfoldable pub own_of : Kind → ℕ → Record → Bool
own_of kind site p = same p.kind (kind_number kind) and same p.site site

-- the day lies in the record: first and last day both count
unfoldable pub lies : ℕ → Record → Bool
lies day p = not (less day p.first) and not (less p.last day)

-- both: the day lies in a record of its own
abbrev pub has_day : Kind → ℕ → ℕ → Record → Bool
has_day kind site day p = own_of kind site p and lies day p

-- some record of the calendar is such a one
unfoldable pub lies_in : List ℕ → Kind → ℕ → ℕ → Bool
lies_in calendar kind site day = some_to (periods_in calendar) (λ j. has_day kind site day (period_at calendar j))

-- open on a day: in a term record of its own and in no closed record of its own
unfoldable pub open_on : List ℕ → ℕ → ℕ → Bool
open_on calendar site day = lies_in calendar Term site day and not (lies_in calendar Closed site day)

-- day i of a week, where Monday is 0: day 0 is a Monday, and week w is days 7 w to 7 w + 6. No bound of 16 bits.
abbrev pub day_of : ℕ → ℕ → ℕ
day_of week i = 7 * week + i

-- takes part in a week: open on at least one of Monday to Friday
unfoldable pub takes_part_in : List ℕ → ℕ → ℕ → Bool
takes_part_in calendar week site = some_to 5 (λ i. open_on calendar site (day_of week i))

-- ---- the numbering of those sites of 1 to 16 that take part

-- those of the sites 1 to s, in rising number
unfoldable pub sites_to : (ℕ → Bool) → ℕ → List ℕ
sites_to takes s = joined s (λ i. select (takes (i + 1)) ((i + 1) ∷ []) [])

-- how many they are
unfoldable pub how_many : (ℕ → Bool) → ℕ → ℕ
how_many takes s = count_to s (λ i. takes (i + 1))

-- the process of a site: how many there are up to it, itself included; 0 for none
unfoldable pub process_of_site : (ℕ → Bool) → ℕ → ℕ
process_of_site takes site = select (takes site) (how_many takes site) 0

-- the site of a process, by the list of all sixteen; 0 for none
unfoldable pub site_of_process : (ℕ → Bool) → ℕ → ℕ
site_of_process takes process = get_or (sites_to takes 16) (process - 1) 0

-- n, and the numbering both ways
unfoldable pub numbering_of : (ℕ → Bool) → Numbering
numbering_of takes =
    record {
      n = how_many takes 16;
      process_of = each 16 (λ i. process_of_site takes (i + 1));
      site_of = each 16 (λ i. site_of_process takes (i + 1));
    }

-- ---- the call

-- no partial record
abbrev pub whole_records : List ℕ → Bool
whole_records calendar = same (length calendar % 8) 0

-- every record is well formed, also those of other weeks
abbrev pub all_well_formed : List ℕ → Bool
all_well_formed calendar = every (periods_in calendar) (λ j. well_formed (period_at calendar j))

-- some site takes part
abbrev pub somebody_in : List ℕ → ℕ → Bool
somebody_in calendar week = some_to 16 (λ i. takes_part_in calendar week (i + 1))

-- a record at fault is 13; then a week in which nobody takes part is 14
unfoldable pub week_refusal : List ℕ → ℕ → ℕ
week_refusal calendar week =
    check (whole_records calendar) 13
    (check (all_well_formed calendar) 13
    (check (somebody_in calendar week) 14 0))

-- the numbering, or the refusal
unfoldable pub week_of : List ℕ → ℕ → Result Numbering Refusal
week_of calendar week =
    select (same (week_refusal calendar week) 0)
    (Ok (numbering_of (takes_part_in calendar week)))
    (Err (refused (week_refusal calendar week)))
