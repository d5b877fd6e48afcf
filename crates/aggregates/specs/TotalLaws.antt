-- What the total is made of, in the words of its laws. They are in ../proofs/TotalLaws.antt.
use Rattle.std.specs.Prelude.{List, ℕ, ◌*◌, get_or}
use Rattle.sets.specs.Lists.{sum_to}
use Rattle.sets.specs.Set.{has}
use Rattle.sets.specs.Truth.{select}
use Rattle.global_data.specs.GlobalData.{portions_of}
use Rattle.aggregates.specs.Entries.{standing_at}

-- the portions in word i
abbrev pub portions_at : List ℕ → ℕ → ℕ
portions_at entries i = portions_of (get_or entries i 0)

-- the portions of the present entries: 01's total, where an absent one was nought
abbrev pub present_sum : ℕ → List ℕ → ℕ → ℕ
present_sum n entries marks = sum_to n (λ i. select (has marks i) (portions_at entries i) 0)

-- the sum of the standing values of the absent ones
abbrev pub absent_sum : ℕ → List ℕ → ℕ → ℕ
absent_sum n standing marks = sum_to n (λ i. select (has marks i) 0 (standing_at standing i))

-- sixteen of the largest standing values
abbrev pub greatest : ℕ
greatest = 16 * 4294967295
