-- The aggregates of global data (document 01: sums of a sheet): total, go, lead and change, with what each refuses.
-- Document 01 says terminal for process, count for portions and blank for absent; its refusals have the names of the
-- crate refusal.
use Rattle.std.specs.Prelude.{Bool, true, Option, None, Some, Ok, Err, List, ℕ, ◌-◌, length, ℤ, pos, ◌-ℤ◌}
use Rattle.std.specs.Result.{result_and}
use Rattle.sets.specs.Lists.{every, sum_to}
use Rattle.sets.specs.Set.{within}
use Rattle.sets.specs.Truth.{same, one_to}
use Rattle.refusal.specs.declared.Refusal.TheVariants.{Size, Field, Slice, Absent, Diet}
use Rattle.global_data.specs.GlobalData.{Entry}
use Rattle.aggregates.specs.declared.Candidate.{Candidate}
use Rattle.aggregates.specs.declared.Leader.{Leader}
use Rattle.aggregates.specs.Answers.{Answer, check}
use Rattle.aggregates.specs.Entries.{entry_at, standing_at, counts_for, served, diets_fit}
use Rattle.aggregates.specs.Leader.{leader_to}

-- ---- refusals: the first check that fails, or none

-- n from 1 to 16; marks below n; the process, where one is used, from 1 to n (`named`); n entries; n standing values,
-- where they are used (`stood`); in each present entry no more diet portions than portions (request C-15)
unfoldable pub refusal_of : ℕ → ℕ → Bool → Bool → List ℕ → Answer Unit
refusal_of n marks named stood entries =
    check (one_to 16 n) Size
    (check (within n marks) Field
    (check named Field
    (check (same (length entries) n) Slice
    (check stood Slice
    (check (diets_fit n (entry_at entries marks)) Diet (Ok tt))))))

-- ---- what each gives, of n entries

-- absent as the standing value of its process (request C-12)
abbrev pub total_to : ℕ → (ℕ → ℕ) → (ℕ → Entry) → ℕ
total_to n standing entry = sum_to n (λ i. counts_for (standing i) (entry i))

-- no entry absent, and each of at least 1 portion
abbrev pub go : ℕ → (ℕ → Entry) → Bool
go n entry = every n (λ i. served (entry i))

-- who leads, and its portions; the lead of entries that are all absent is refused
abbrev pub led : Option Candidate → Answer Leader
led None = Err Absent
led (Some c) = Ok (record { process = c.process; portions = c.value.portions })

-- portions less standing value (document 01: standing count); the change of an absent entry is refused
abbrev pub changed : ℕ → Entry → Answer ℤ
changed standing None = Err Absent
changed standing (Some v) = Ok (pos v.portions -ℤ pos standing)

-- ---- the calls

unfoldable pub total_of : ℕ → List ℕ → ℕ → List ℕ → Answer ℕ
total_of n entries marks standing =
    result_and (refusal_of n marks true (same (length standing) n) entries)
    (Ok (total_to n (standing_at standing) (entry_at entries marks)))

unfoldable pub go_of : ℕ → List ℕ → ℕ → Answer Bool
go_of n entries marks =
    result_and (refusal_of n marks true true entries) (Ok (go n (entry_at entries marks)))

unfoldable pub lead_of : ℕ → List ℕ → ℕ → Answer Leader
lead_of n entries marks =
    result_and (refusal_of n marks true true entries) (led (leader_to n (entry_at entries marks)))

unfoldable pub change_of : ℕ → List ℕ → ℕ → ℕ → ℕ → Answer ℤ
change_of n entries marks process standing =
    result_and (refusal_of n marks (one_to n process) true entries)
    (changed standing (entry_at entries marks (process - 1)))
