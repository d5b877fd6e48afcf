-- Laws of the table: a refusal is that of its number, and the number of that is the number.
use Rattle.std.specs.Prelude.{◌≡◌, refl, List, [], ◌∷◌, ℕ, zero, suc, ◌+◌, ◌-◌, ◌≤◌, ◌<◌, get_or, length, map}
use Rattle.std.proofs.Common.{◌∙◌, arith}
use Rattle.refusal.specs.declared.Refusal.{Refusal}
use Rattle.refusal.specs.declared.Refusal.TheVariants.{Size, Damaged, Length, Kind, Field, Crashed, NotDue, Waiting}
use Rattle.refusal.specs.declared.Refusal.TheVariants.{CrashLimit, Slice, Undecided, Absent, Calendar, NoSite, Diet, LargeValue}
use Rattle.refusal.specs.Numbers.{refusal_number, table, refused}

pub refused_number : (r : Refusal) → refused (refusal_number r) ≡ r
refused_number Size = refl
refused_number Damaged = refl
refused_number Length = refl
refused_number Kind = refl
refused_number Field = refl
refused_number Crashed = refl
refused_number NotDue = refl
refused_number Waiting = refl
refused_number CrashLimit = refl
refused_number Slice = refl
refused_number Undecided = refl
refused_number Absent = refl
refused_number Calendar = refl
refused_number NoSite = refl
refused_number Diet = refl
refused_number LargeValue = refl

-- the numbers are 1 to 16
pub number_range : (r : Refusal) → (1 ≤ refusal_number r) × (refusal_number r ≤ 16)
number_range Size = (omega arith, omega arith)
number_range Damaged = (omega arith, omega arith)
number_range Length = (omega arith, omega arith)
number_range Kind = (omega arith, omega arith)
number_range Field = (omega arith, omega arith)
number_range Crashed = (omega arith, omega arith)
number_range NotDue = (omega arith, omega arith)
number_range Waiting = (omega arith, omega arith)
number_range CrashLimit = (omega arith, omega arith)
number_range Slice = (omega arith, omega arith)
number_range Undecided = (omega arith, omega arith)
number_range Absent = (omega arith, omega arith)
number_range Calendar = (omega arith, omega arith)
number_range NoSite = (omega arith, omega arith)
number_range Diet = (omega arith, omega arith)
number_range LargeValue = (omega arith, omega arith)

-- the table has the refusals in the order of their numbers, from 1
count_from : ℕ → ℕ → List ℕ
count_from k zero = []
count_from k (suc n) = k ∷ count_from (suc k) n

table_numbered : map refusal_number table ≡ count_from 1 16
unfolding count_from
table_numbered = refl

number_at : (l : List Refusal) (k i : ℕ) → map refusal_number l ≡ count_from k (length l) → i < length l
    → refusal_number (get_or l i LargeValue) ≡ k + i
unfolding count_from
number_at [] k i e h = absurd (omega arith)
number_at (r ∷ l) k zero e h = let z : refusal_number r ≡ k = cc in omega (arith, z)
number_at (r ∷ l) k (suc i) e h =
    let z : map refusal_number l ≡ count_from (suc k) (length l) = cc in
    number_at l (suc k) i z (omega arith) ∙ omega arith

-- so each number from 1 to 16 is that of its refusal
pub number_refused : (k : ℕ) → 1 ≤ k → k ≤ 16 → refusal_number (refused k) ≡ k
number_refused k h g = number_at table 1 (k - 1) table_numbered (omega arith) ∙ omega arith
