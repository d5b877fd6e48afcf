-- Laws of the text: a number's digits by its last one, and that they are what a format writes of the number.
use Rattle.std.specs.Prelude.{◌≡◌, refl, Bool, true, false, List, [], ◌∷◌, ◌++◌}
use Rattle.std.specs.Prelude.{ℕ, zero, suc, ◌/◌, ◌+◌, ◌%◌, ◌^◌, ◌≤◌, ◌<◌}
use Rattle.std.proofs.Common.{sym, ◌∙◌, ⊎_elim, arith, append_assoc}
use Rattle.std.specs.Int.{from_bool}
use Rattle.std.specs.Fmt as fmt
use Rattle.std.proofs.lemmas.Fmt.{decimal_from_appends, length-decimal-le_succ}
use Rattle.sets.specs.TruthLaws.{select_on, select_off, less_mk, less_off, le-or}
use Rattle.sets.specs.Truth.{bit}
use Rattle.sets.specs.Lists.{joined}
use Rattle.global_data.specs.GlobalData.{entry_of}
use Rattle.global_data.specs.declared.Value.{Value}
use Rattle.process.specs.declared.Process.{Process}
use Rattle.process.specs.Steps.{has_decided}
use Rattle.text.specs.Text.{digits_of, decimal, field_of, newline, line_of, value_text, entry_text, process_text}

digits_low : (k x : ℕ) → x < 10 → digits_of (suc k) x ≡ (48 + x) ∷ []
unfolding digits_of
digits_low k x h = select_on _ _ _ (less_mk x 10 h)

digits_more : (k x : ℕ) → 10 ≤ x → digits_of (suc k) x ≡ digits_of k (x / 10) ++ ((48 + x % 10) ∷ [])
unfolding digits_of
digits_more k x h = select_off _ _ _ (less_off x 10 h)

-- as many as there are, however many are allowed
enough : (k m x : ℕ) → x < k → x < m → digits_of k x ≡ digits_of m x
enough zero m x h g = absurd (omega arith)
enough (suc k) zero x h g = absurd (omega arith)
enough (suc k) (suc m) x h g =
    ⊎_elim
    (λ b.
    digits_more k x b ∙ rw (enough k m (x / 10) (omega arith) (omega arith)) (sym (digits_more m x b)))
    (λ b. digits_low k x b ∙ sym (digits_low m x b)) (le-or 10 x)

pub decimal_low : (x : ℕ) → x < 10 → decimal x ≡ (48 + x) ∷ []
unfolding decimal
decimal_low x h = digits_low x x h

pub decimal_more : (x : ℕ) → 10 ≤ x → decimal x ≡ decimal (x / 10) ++ ((48 + x % 10) ∷ [])
unfolding decimal
decimal_more x h = digits_more x x h ∙ rw (enough x (suc (x / 10)) (x / 10) (omega arith) (omega arith))

-- what `{}` writes of a number of 64 bits
pub decimal_printed : (x : ℕ) → x < 2 ^ 64 → decimal x ≡ fmt.decimal x
unfolding decimal
decimal_printed x h =
    decimal_from_appends digits_of (record { one = digits_low; more = digits_more }) (suc x) x h
    (omega (arith, length-decimal-le_succ x h))

pub line_printed : (k r : ℕ) → k < 2 ^ 64 → r < 2 ^ 64
    → line_of k r ≡ fmt.decimal k ++ (32 ∷ (fmt.decimal r ++ newline))
unfolding line_of field_of
line_printed k r h i = rw (decimal_printed k h, decimal_printed r i)

pub value_printed : (v : Value) → v.portions < 2 ^ 16 → v.diet < 2 ^ 16
    → value_text v ≡ fmt.decimal v.portions ++ (47 ∷ fmt.decimal v.diet)
unfolding value_text
value_printed v h i = rw (decimal_printed v.portions (omega arith), decimal_printed v.diet (omega arith))

-- of a `bool` as a number
pub bit_number : (b : Bool) → bit b ≡ from_bool b
unfolding bit
bit_number true = refl
bit_number false = refl

from_bool_small : (b : Bool) → from_bool b < 2 ^ 64
from_bool_small true = omega arith
from_bool_small false = omega arith

-- a number after a space, as a format writes it
abbrev pub printed : ℕ → List ℕ
printed x = 32 ∷ fmt.decimal x

-- a process's line, as formats write it: before its entries its number and round, and the two flags as numbers
pub process_printed : (n a : ℕ) (crashed : Bool) (p : Process) → a < 2 ^ 8 → p.round < 2 ^ 8
    → process_text n a crashed p
    ≡ (84 ∷ (printed (a + 1)
    ++ (printed p.round ++ (printed (from_bool crashed) ++ printed (from_bool (has_decided p))))))
    ++ (joined n (λ k. entry_text (entry_of p.estimate k)) ++ newline)
unfolding process_text field_of
process_printed n a crashed p h i =
    rw (
      bit_number crashed,
      bit_number (has_decided p),
      decimal_printed (a + 1) (omega arith),
      decimal_printed p.round (omega arith),
      decimal_printed (from_bool crashed) (from_bool_small crashed),
      decimal_printed (from_bool (has_decided p)) (from_bool_small (has_decided p)),
    )
    (simp append_assoc)
