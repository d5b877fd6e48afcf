-- Weeks of explicit calendars, as one table, and one theorem that the definition answers each of them: the checker
-- computes it. First and last days, weekends, closed days, sixteen sites, the last week that days of 16 bits reach,
-- and each ground of the two refusals.
use Rattle.std.specs.Prelude.{◌≡◌, refl, List, [], ◌∷◌, ◌++◌, map, ℕ, ◌+◌, ◌-◌, ◌/◌, ◌%◌, length, replicate, Result}
use Rattle.std.specs.Prelude.{Ok, Err}
use Rattle.sets.specs.Lists.{each, joined, every, some_to, count_to}
use Rattle.sets.specs.Truth.{◌and◌, same, less, one_to, bit, select, check}
use Rattle.refusal.specs.declared.Refusal.{Refusal}
use Rattle.refusal.specs.Numbers.{refused}
use Rattle.calendar.specs.declared.Numbering.{Numbering}
use Rattle.calendar.specs.Calendar.{pair_of, periods_in, period_at, well_formed, own_of, lies, lies_in, open_on}
use Rattle.calendar.specs.Calendar.{takes_part_in, sites_to, how_many, process_of_site, site_of_process, numbering_of}
use Rattle.calendar.specs.Calendar.{week_refusal, week_of}

-- ---- calendars
abbrev period_bytes : ℕ → ℕ → ℕ → ℕ → List ℕ
period_bytes kind site first last =
    site ∷ kind ∷ first % 256 ∷ first / 256 ∷ last % 256 ∷ last / 256 ∷ 0 ∷ 0 ∷ []

abbrev term_of : ℕ → ℕ → ℕ → List ℕ
term_of = period_bytes 1

abbrev closed_of : ℕ → ℕ → ℕ → List ℕ
closed_of = period_bytes 2

-- Wednesday of week 1, for site 3
abbrev wednesday : List ℕ
wednesday = term_of 3 9 9

-- two weeks of term for site 3
abbrev fortnight : List ℕ
fortnight = term_of 3 0 13

-- week 0 for the sites 16 to 1
abbrev everybody : List ℕ
everybody = joined 16 (λ i. term_of (16 - i) 0 6)

-- ---- answers: n, the processes of the sites and the sites of the processes, with what is not written 0
abbrev sixteen : List ℕ → List ℕ
sixteen l = l ++ replicate (16 - length l) 0

abbrev gives : ℕ → List ℕ → List ℕ → Result Numbering Refusal
gives n processes sites = Ok (record { n = n; process_of = sixteen processes; site_of = sixteen sites })

-- site 3 alone
abbrev third : Result Numbering Refusal
third = gives 1 (0 ∷ 0 ∷ 1 ∷ []) (3 ∷ [])

pub record Case : Type 0 where
  pub calendar : List ℕ
  pub week : ℕ
  pub answer : Result Numbering Refusal

abbrev case : List ℕ → ℕ → Result Numbering Refusal → Case
case c w a = record { calendar = c; week = w; answer = a }

abbrev pub table : List Case
table =
    -- first day equal to last: its week, the week before, the week after
    case wednesday 1 third
    ∷ case wednesday 0 (Err (refused 14))
    ∷ case wednesday 2 (Err (refused 14))
    -- both days count: term from a Friday, and to a Monday
    ∷ case (term_of 3 11 20) 1 third
    ∷ case (term_of 3 2 7) 1 third
    ∷ case (term_of 3 2 6) 1 (Err (refused 14))
    -- Friday alone; Saturday and Sunday alone
    ∷ case (term_of 3 4 4) 0 third
    ∷ case (term_of 3 5 6) 0 (Err (refused 14))
    -- closed over the weekend alone, on four days of five, on all five, and in another week
    ∷ case (fortnight ++ closed_of 3 5 6) 0 third
    ∷ case (fortnight ++ closed_of 3 0 3) 0 third
    ∷ case (fortnight ++ closed_of 3 0 4) 0 (Err (refused 14))
    ∷ case (fortnight ++ closed_of 3 0 4) 1 third
    -- closed wins, before the term and after it; closed by itself opens nothing
    ∷ case (closed_of 3 0 4 ++ fortnight) 0 (Err (refused 14))
    ∷ case (closed_of 3 0 4) 0 (Err (refused 14))
    -- another site closed
    ∷ case (fortnight ++ closed_of 2 0 13) 0 third
    -- three sites, in no order and one of them twice
    ∷ case (term_of 9 0 6 ++ (term_of 2 0 6 ++ (fortnight ++ term_of 9 0 6))) 0
    (gives 3 (0 ∷ 1 ∷ 2 ∷ 0 ∷ 0 ∷ 0 ∷ 0 ∷ 0 ∷ 3 ∷ []) (2 ∷ 3 ∷ 9 ∷ []))
    -- README's calendar
    ∷ case (term_of 1 7 39 ++ (closed_of 1 21 25 ++ (term_of 4 7 39 ++ term_of 9 25 32))) 3
    (gives 2 (0 ∷ 0 ∷ 0 ∷ 1 ∷ 0 ∷ 0 ∷ 0 ∷ 0 ∷ 2 ∷ []) (4 ∷ 9 ∷ []))
    ∷ case everybody 0 (gives 16 (each 16 (λ i. i + 1)) (each 16 (λ i. i + 1)))
    -- day 65,535 is the Tuesday of week 9,362; no day of a later week is one of 16 bits
    ∷ case (term_of 3 65535 65535) 9362 third
    ∷ case (term_of 3 0 65535) 9363 (Err (refused 14))
    ∷ case (term_of 3 0 65535) 65535 (Err (refused 14))
    -- 14: an empty calendar
    ∷ case [] 0 (Err (refused 14))
    -- 13: a partial record, alone and after a good one
    ∷ case (3 ∷ 1 ∷ 0 ∷ 0 ∷ 13 ∷ 0 ∷ 0 ∷ []) 0 (Err (refused 13))
    ∷ case (fortnight ++ (3 ∷ [])) 0 (Err (refused 13))
    -- 13: site, kind, first day after last, last bytes
    ∷ case (fortnight ++ term_of 0 0 13) 0 (Err (refused 13))
    ∷ case (fortnight ++ term_of 17 0 13) 0 (Err (refused 13))
    ∷ case (fortnight ++ period_bytes 0 3 0 13) 0 (Err (refused 13))
    ∷ case (fortnight ++ period_bytes 3 3 0 13) 0 (Err (refused 13))
    ∷ case (fortnight ++ term_of 3 14 13) 0 (Err (refused 13))
    ∷ case (fortnight ++ (3 ∷ 1 ∷ 0 ∷ 0 ∷ 13 ∷ 0 ∷ 1 ∷ 0 ∷ [])) 0 (Err (refused 13))
    ∷ case (fortnight ++ (3 ∷ 1 ∷ 0 ∷ 0 ∷ 13 ∷ 0 ∷ 0 ∷ 1 ∷ [])) 0 (Err (refused 13))
    -- 13 before 14: the first record is at fault, and nobody takes part
    ∷ case (period_bytes 3 3 0 13 ++ wednesday) 0 (Err (refused 13))
    ∷ []

-- what the definition gives for each, and what is written there
pub weeks : map (λ c. week_of c.calendar c.week) table ≡ map (λ c. c.answer) table
unfolding week_of week_refusal numbering_of process_of_site site_of_process sites_to how_many takes_part_in
    open_on lies_in lies own_of well_formed period_at periods_in pair_of each joined every some_to count_to ◌and◌ same less
    one_to bit select check
weeks = refl
