-- The lead: the greatest of the present entries, by the order of request C-18. Numbers are document 01's, from 1.
use Rattle.std.specs.Prelude.{Bool, not, Option, None, Some, List, [], ◌∷◌, ℕ, ◌+◌, option_map, option_to_list}
use Rattle.sets.specs.Lists.{joined, every_in}
use Rattle.sets.specs.Truth.{◌and◌, ◌or◌, same, less, select}
use Rattle.global_data.specs.GlobalData.{Entry}
use Rattle.aggregates.specs.declared.Candidate.{Candidate}

-- a leads before b: it has more portions; of equal portions more diet portions; of those equal too the higher number
unfoldable pub better : Candidate → Candidate → Bool
better a b =
    less b.value.portions a.value.portions
    or (same b.value.portions a.value.portions
    and (less b.value.diet a.value.diet
    or (same b.value.diet a.value.diet
    and less b.process a.process)))

-- process i, from 0, with its entry; none where that is absent (document 01: blank)
abbrev pub contender : ℕ → Entry → Option Candidate
contender i entry = option_map (λ v. record { value = v; process = i + 1 }) entry

-- the candidates among the processes 1 to n, whose entries are g 0 to g (n - 1)
unfoldable pub candidates : ℕ → (ℕ → Entry) → List Candidate
candidates n g = joined n (λ i. option_to_list (contender i (g i)))

-- c is the greatest of a list: none of it leads before c
unfoldable pub is_greatest : List Candidate → Candidate → Bool
is_greatest l c = every_in (λ a. not (better a c)) l

-- the first of a list that passes a test
unfoldable pub first_in : (Candidate → Bool) → List Candidate → Option Candidate
first_in test [] = None
first_in test (c ∷ l) = select (test c) (Some c) (first_in test l)

-- the leader of the processes 1 to n: the greatest candidate, of which there is but one (LeaderLaws.antt)
unfoldable pub leader_to : ℕ → (ℕ → Entry) → Option Candidate
leader_to n g = first_in (is_greatest (candidates n g)) (candidates n g)
