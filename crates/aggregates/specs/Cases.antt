-- Calls on explicit lists, as two tables, and a theorem for each that the definitions answer every one of them:
-- the checker computes it. The ends are reached, and the order shows where two refusals apply.
use Rattle.std.specs.Prelude.{◌≡◌, refl, Bool, true, false, Ok, Err, List, [], ◌∷◌, map}
use Rattle.std.specs.Prelude.{ℕ, ◌+◌, ◌*◌, ℤ, pos, negsuc, replicate}
use Rattle.sets.specs.Lists.{joined, every, every_in, sum_to}
use Rattle.sets.specs.Set.{has, within}
use Rattle.sets.specs.Truth.{◌and◌, ◌or◌, same, less, one_to, select}
use Rattle.global_data.specs.GlobalData.{portions_of, diet_of, diet_fits}
use Rattle.refusal.specs.declared.Refusal.{Refusal}
use Rattle.refusal.specs.declared.Refusal.TheVariants.{Size, Field, Slice, Absent, Diet}
use Rattle.aggregates.specs.declared.Leader.{Leader}
use Rattle.aggregates.specs.Answers.{Answer, check}
use Rattle.aggregates.specs.Entries.{entry_at}
use Rattle.aggregates.specs.Leader.{better, candidates, is_greatest, first_in, leader_to}
use Rattle.aggregates.specs.Aggregates.{refusal_of, total_of, go_of, lead_of, change_of}
use Rattle.aggregates.specs.TotalLaws.{greatest}

-- the word of portions and diet portions
abbrev word : ℕ → ℕ → ℕ
word p d = p + 65536 * d

-- ---- totals
pub record Case : Type 0 where
  pub n : ℕ
  pub entries : List ℕ
  pub marks : ℕ
  pub standing : List ℕ
  pub answer : Answer ℕ

abbrev case : ℕ → List ℕ → ℕ → List ℕ → Answer ℕ → Case
case n e m s a = record { n = n; entries = e; marks = m; standing = s; answer = a }

-- three entries, and the standing values of three processes
abbrev three_entries : List ℕ
three_entries = word 5 1 ∷ word 6 6 ∷ word 7 0 ∷ []

abbrev stood : List ℕ
stood = 50 ∷ 60 ∷ 70 ∷ []

-- sixteen of the largest word
abbrev most : List ℕ
most = replicate 16 4294967295

-- the second has one diet portion more than portions
abbrev fault : List ℕ
fault = word 5 1 ∷ word 6 7 ∷ word 7 0 ∷ []

-- marks are bits, entry 1 the lowest
abbrev pub table : List Case
table =
    case 3 three_entries 7 stood (Ok 18)
    ∷ case 3 three_entries 5 stood (Ok 72)
    ∷ case 3 three_entries 6 stood (Ok 63)
    ∷ case 3 three_entries 0 stood (Ok 180)
    ∷ case 3 three_entries 5 (replicate 3 0) (Ok 12)
    ∷ case 3 (0 ∷ 6 ∷ 7 ∷ []) 7 stood (Ok 13)
    -- what is not read: a word under an absent entry, also one at fault, and a standing value of a present one
    ∷ case 3 (5 ∷ 99 ∷ 7 ∷ []) 5 (98 ∷ 60 ∷ 97 ∷ []) (Ok 72)
    ∷ case 3 fault 5 stood (Ok 72)
    -- the greatest: all present, all absent, half of each
    ∷ case 16 most 65535 (replicate 16 0) (Ok (16 * 65535))
    ∷ case 16 (replicate 16 0) 0 most (Ok greatest)
    ∷ case 16 most 255 most (Ok (8 * 65535 + 8 * 4294967295))
    -- standing values of two, of four, of none
    ∷ case 3 three_entries 7 (50 ∷ 60 ∷ []) (Err Slice)
    ∷ case 3 three_entries 7 (50 ∷ 60 ∷ 70 ∷ 80 ∷ []) (Err Slice)
    ∷ case 3 three_entries 7 [] (Err Slice)
    -- entries of two
    ∷ case 3 (5 ∷ 6 ∷ []) 3 stood (Err Slice)
    -- a present entry with more diet portions than portions
    ∷ case 3 fault 7 stood (Err Diet)
    ∷ case 3 fault 2 stood (Err Diet)
    ∷ case 3 (0 ∷ 0 ∷ word 0 1 ∷ []) 4 stood (Err Diet)
    -- size before field, slice and diet; field before slice and diet; either slice before diet
    ∷ case 17 fault 131072 stood (Err Size)
    ∷ case 0 [] 0 stood (Err Size)
    ∷ case 3 fault 15 [] (Err Field)
    ∷ case 2 fault 3 stood (Err Slice)
    ∷ case 3 fault 7 (50 ∷ 60 ∷ []) (Err Slice)
    ∷ []

-- each call of the table has its answer
pub cases_hold : map (λ c. total_of c.n c.entries c.marks c.standing) table ≡ map (λ c. c.answer) table
unfolding portions_of diet_of diet_fits every sum_to has within ◌and◌ same less one_to select check entry_at refusal_of
    total_of
cases_hold = refl

-- ---- go, lead, and the change of a process from a standing value
pub record Answers : Type 0 where
  pub goes : Answer Bool
  pub leads : Answer Leader
  pub changes : Answer ℤ

pub record Reading : Type 0 where
  pub n : ℕ
  pub entries : List ℕ
  pub marks : ℕ
  pub process : ℕ
  pub standing : ℕ
  pub answers : Answers

abbrev reading : ℕ → List ℕ → ℕ → ℕ → ℕ → Answers → Reading
reading n e m p s a = record { n = n; entries = e; marks = m; process = p; standing = s; answers = a }

abbrev given : Bool → ℕ → ℕ → ℤ → Answers
given b p v z =
    record { goes = Ok b; leads = Ok (record { process = p; portions = v }); changes = Ok z }

-- go and the lead are given, the change is refused
abbrev unchanged : Bool → ℕ → ℕ → Refusal → Answers
unchanged b p v k =
    record { goes = Ok b; leads = Ok (record { process = p; portions = v }); changes = Err k }

abbrev all_refused : Refusal → Answers
all_refused k = record { goes = Err k; leads = Err k; changes = Err k }

abbrev alone : ℕ → ℕ → ℕ → Answers → Reading
alone p d s a = reading 1 (word p d ∷ []) 1 1 s a

abbrev pub readings : List Reading
readings =
    -- the ends of a value, and both ends of a change
    alone 0 0 4294967295 (given false 1 0 (negsuc 4294967294))
    ∷ alone 65535 65535 0 (given true 1 65535 (pos 65535))
    ∷ alone 65535 0 65535 (given true 1 65535 (pos 0))
    ∷ alone 1 1 0 (given true 1 1 (pos 1))
    -- one diet portion more than portions
    ∷ alone 0 1 0 (all_refused Diet)
    ∷ alone 65534 65535 0 (all_refused Diet)
    -- portions come first: 40/0 leads before 3/3, from either side
    ∷ reading 2 (word 40 0 ∷ word 3 3 ∷ []) 3 2 5 (given true 1 40 (negsuc 1))
    ∷ reading 2 (word 3 3 ∷ word 40 0 ∷ []) 3 1 5 (given true 2 40 (negsuc 1))
    -- of equal portions more diet portions lead, from either side and up to the largest
    ∷ reading 2 (word 3 0 ∷ word 3 3 ∷ []) 3 2 3 (given true 2 3 (pos 0))
    ∷ reading 2 (word 3 3 ∷ word 3 0 ∷ []) 3 2 3 (given true 1 3 (pos 0))
    ∷ reading 2 (word 65535 65535 ∷ word 65535 65534 ∷ []) 3 1 65535 (given true 1 65535 (pos 0))
    -- of those equal too the highest number leads: of three, of the first two, of all sixteen, of no portions
    ∷ reading 3 (replicate 3 (word 7 2)) 7 1 7 (given true 3 7 (pos 0))
    ∷ reading 3 (word 7 2 ∷ word 7 2 ∷ word 7 1 ∷ []) 7 1 7 (given true 2 7 (pos 0))
    ∷ reading 16 (replicate 16 (word 9 9)) 65535 1 9 (given true 16 9 (pos 0))
    ∷ reading 3 (replicate 3 0) 7 1 0 (given false 3 0 (pos 0))
    -- what is absent does not lead: not with more portions, more diet portions or a higher number
    ∷ reading 3 (word 7 2 ∷ word 9 0 ∷ word 5 5 ∷ []) 5 1 7 (given false 1 7 (pos 0))
    ∷ reading 3 (word 7 2 ∷ word 7 3 ∷ word 7 1 ∷ []) 5 1 7 (given false 1 7 (pos 0))
    ∷ reading 3 (replicate 3 (word 7 2)) 3 1 7 (given false 2 7 (pos 0))
    -- diet of another entry than the one asked for, and before absent; nothing under an absent one
    ∷ reading 3 fault 7 1 0 (all_refused Diet)
    ∷ reading 3 fault 6 1 0 (all_refused Diet)
    ∷ reading 3 fault 5 2 0 (unchanged false 3 7 Absent)
    ∷ reading 3 fault 0 2 0 (record { goes = Ok false; leads = Err Absent; changes = Err Absent })
    -- size, field and slice before diet
    ∷ reading 17 fault 7 1 0 (all_refused Size)
    ∷ reading 3 fault 15 1 0 (all_refused Field)
    ∷ reading 3 fault 7 4 0 (record { goes = Err Diet; leads = Err Diet; changes = Err Field })
    ∷ reading 2 fault 3 1 0 (all_refused Slice)
    ∷ []

pub read : map (λ c. record {
  goes = go_of c.n c.entries c.marks;
  leads = lead_of c.n c.entries c.marks;
  changes = change_of c.n c.entries c.marks c.process c.standing;
}) readings ≡ map (λ c. c.answers) readings
unfolding portions_of diet_of diet_fits joined every every_in has within ◌and◌ ◌or◌ same less one_to select check
    entry_at better candidates is_greatest first_in leader_to refusal_of go_of lead_of change_of
read = refl
