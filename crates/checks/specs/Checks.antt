-- Checks 6 to 9 of an event on the parts of the bench that it looks at, as the code has them.
-- Each is the definition with its parts named, so it holds by unfolding.
use Rattle.std.specs.Prelude.{◌≡◌, refl, Bool, true, false, not, ℕ, ◌≤◌}
use Rattle.sets.specs.Set.{has, size_of, empty_set}
use Rattle.sets.specs.Truth.{◌and◌, same, less, select, check}
use Rattle.sets.specs.TruthLaws.{and_first, less_on, clash}
use Rattle.process.specs.declared.Process.{Process}
use Rattle.process.specs.Steps.{has_decided, takes_part, due_of}

-- the number of the first check that fails, or 0
abbrev pub first_failed : Bool → Bool → Bool → Bool → ℕ
first_failed crashed passes7 passes8 passes9 =
    check (not crashed) 6 (check passes7 7 (check passes8 8 (check passes9 9 0)))

-- a start of a, in that round
abbrev pub start_check : ℕ → ℕ → ℕ → ℕ
start_check crashed a round = first_failed (has crashed a) (same round 0) true true

-- a acts on a message for b: b is in the set m of those to whom it is owed, or is on its way
abbrev pub message_check : ℕ → ℕ → ℕ → ℕ → ℕ
message_check crashed a m b = first_failed (has crashed a) (has m b) true true

abbrev pub close_check : ℕ → ℕ → Process → ℕ
close_check crashed a p = first_failed (has crashed a) (takes_part p and same p.outbox empty_set) (due_of a p) true

abbrev pub crash_check : ℕ → ℕ → ℕ → ℕ
crash_check crashed a t = first_failed (has crashed a) true true (less (size_of crashed) t)

-- a, which suspects those in m, is to suspect b
abbrev pub suspect_check : ℕ → ℕ → ℕ → ℕ → ℕ
suspect_check crashed a m b = first_failed (has crashed a) (has crashed b and not (has m b)) true true

-- what passes 6 and 7 is up to what is checked after them
pub first_possible : (crashed passes7 passes8 passes9 : Bool) → (passes7 and not crashed) ≡ true
    → first_failed crashed passes7 passes8 passes9 ≡ first_failed false true passes8 passes9
unfolding check select ◌and◌
first_possible true true passes8 passes9 e = clash false e refl
first_possible true false passes8 passes9 e = clash false e refl
first_possible false true passes8 passes9 e = refl
first_possible false false passes8 passes9 e = clash false e refl

-- what fails one of them does so whatever is checked after it
pub first_impossible : (crashed passes7 passes8 passes9 : Bool) → (passes7 and not crashed) ≡ false
    → first_failed crashed passes7 passes8 passes9 ≡ first_failed crashed false false true
unfolding check select ◌and◌
first_impossible true passes7 passes8 passes9 e = refl
first_impossible false true passes8 passes9 e = clash true refl e
first_impossible false false passes8 passes9 e = refl

-- a process that takes part has started
pub takes_started : (p : Process) → takes_part p ≡ true → 1 ≤ p.round
unfolding takes_part
takes_started p e = less_on 0 p.round (and_first (less 0 p.round) (not (has_decided p)) e)
