-- Sets of processes (document 01: sets of terminals, and present marks): bit i of a 16-bit number says whether
-- process i, counted from 0, is in.
use Rattle.std.specs.Prelude.{Bool, List, ℕ, ◌-◌, ◌/◌, ◌%◌, ◌^◌}
use Rattle.std.specs.List.{filter, range_with_len}
use Rattle.std.specs.Int.Bits.{bit_and, bit_or, bit_xor}
use Rattle.std.specs.Int.Count.{ones, count_trailing_zeros}
use Rattle.sets.specs.Truth.{same, less}

-- i is in the set m
unfoldable pub has : ℕ → ℕ → Bool
has m i = same (m / 2 ^ i % 2) 1

unfoldable pub insert_of : ℕ → ℕ → ℕ
insert_of m i = bit_or m (2 ^ i)

unfoldable pub union_of : ℕ → ℕ → ℕ
union_of a b = bit_or a b

unfoldable pub intersection_of : ℕ → ℕ → ℕ
intersection_of a b = bit_and a b

-- the members of a that are not in b
unfoldable pub difference_of : ℕ → ℕ → ℕ
difference_of a b = bit_xor a (bit_and a b)

unfoldable pub remove_of : ℕ → ℕ → ℕ
remove_of m i = difference_of m (2 ^ i)

-- all n: the processes 0 to n - 1
unfoldable pub all_of : ℕ → ℕ
all_of n = 2 ^ n - 1

abbrev pub empty_set : ℕ
empty_set = 0

-- the lowest member: as many digits below it are 0
unfoldable pub lowest_of : ℕ → ℕ
lowest_of m = count_trailing_zeros 16 m

-- the members in rising order
unfoldable pub members_of : ℕ → List ℕ
members_of m = filter (has m) (range_with_len 0 16)

-- how many members
unfoldable pub size_of : ℕ → ℕ
size_of m = ones m

-- no member at or past n
unfoldable pub within : ℕ → ℕ → Bool
within n m = less m (2 ^ n)
