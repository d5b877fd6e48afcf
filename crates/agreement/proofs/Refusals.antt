-- The calls that refuse by a number answer the refusal of that number: each number is in document 01's table.
use Rattle.std.specs.Prelude.{◌≡◌, ◌≢◌, List, Bool, true, false, ℕ, ◌≤◌, length}
use Rattle.std.proofs.Common.{arith}
use Rattle.sets.specs.Truth.{check, select}
use Rattle.sets.specs.TruthLaws.{select_by}
use Rattle.refusal.specs.Numbers.{refusal_number, refused}
use Rattle.refusal.proofs.NumberLaws.{number_refused}
use Rattle.bench.specs.declared.Bench.{Bench}
use Rattle.bench.specs.Calls.{show_refusal}
use Rattle.bench.specs.Carry.{carry_refusal}
use Rattle.bench.specs.TransitList.{list_refusal}

-- a check of a number of the table before numbers of it
checked : (b : Bool) (k r : ℕ) → k ≤ 16 → r ≤ 16 → check b k r ≤ 16
unfolding check
checked b k r h g = select_by (λ (n : ℕ). n ≤ 16) b r k (λ e. g) (λ e. h)

in_table : (k : ℕ) → k ≤ 16 → k ≢ 0 → refusal_number (refused k) ≡ k
in_table k h n = number_refused k (omega (arith, n)) h

pub show_number : (s : Bench) (x : ℕ) (out : List ℕ) → show_refusal s x out ≢ 0
    → refusal_number (refused (show_refusal s x out)) ≡ show_refusal s x out
unfolding show_refusal
show_number s x out n =
    in_table _
    (checked _ 2 _ (omega arith)
    (checked _ 5 _ (omega arith) (checked _ 10 _ (omega arith) (checked _ 11 0 (omega arith) (omega arith))))) n

pub list_number : (s : Bench) (out : List ℕ) → list_refusal s out ≢ 0
    → refusal_number (refused (list_refusal s out)) ≡ list_refusal s out
unfolding list_refusal
list_number s out n = in_table _ (checked _ 2 _ (omega arith) (checked _ 10 0 (omega arith) (omega arith))) n

pub carry_number : (s : Bench) → carry_refusal s ≢ 0
    → refusal_number (refused (carry_refusal s)) ≡ carry_refusal s
unfolding carry_refusal
carry_number s n = in_table _ (checked _ 2 _ (omega arith) (checked _ 16 0 (omega arith) (omega arith))) n
