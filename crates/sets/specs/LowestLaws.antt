-- Laws of the lowest member: it is one, none is below it, and a set without it is the number that the code makes.
-- The digits are looked at from the lowest on: an odd number has 0 as its lowest member, an even one one more than its
-- half has.
use Rattle.std.specs.Prelude.{◌≡◌, refl, true, false, ℕ, zero, suc, ◌+◌, ◌-◌, ◌/◌, ◌%◌, ◌^◌, ◌<◌}
use Rattle.std.proofs.Common.{sym, ap, ◌∙◌, pow-suc, arith, pow_pos}
use Rattle.std.proofs.Math.Arith.{lt-one}
use Rattle.std.specs.Int.Bits.{bit_and, and_step, and_self}
use Rattle.std.specs.Int.Count.{count_trailing_zeros, under}
use Rattle.sets.specs.Set.{has, remove_of, lowest_of}
use Rattle.sets.specs.TruthLaws.{same_mk, same_off}
use Rattle.sets.specs.Laws.{has_half, remove_number}

-- ---- the digits below the lowest one
abbrev low_digits : ℕ → ℕ → ℕ
low_digits = count_trailing_zeros

-- by the lowest digit: what holds of an odd number, and of an even one if of its half
by_half : (P : ℕ → ℕ → ℕ → Type 0) → ((k n : ℕ) → n % 2 ≡ 1 → P (suc k) n 0)
    → ((k n : ℕ) → n % 2 ≡ 0 → P k (n / 2) (low_digits k (n / 2)) → P (suc k) n (suc (low_digits k (n / 2))))
    → (k n : ℕ) → 0 < n → n < 2 ^ k → P k n (low_digits k n)
unfolding count_trailing_zeros
by_half P odd even zero n p h = absurd (omega (arith, lt-one h))
by_half P odd even (suc k) n p h = go (n % 2) refl (λ q. by_half P odd even k (n / 2) q (omega (arith, pow-suc 2 k)))
  where
    go : (d : ℕ) → n % 2 ≡ d → (0 < n / 2 → P k (n / 2) (low_digits k (n / 2)))
        → P (suc k) n (under (n % 2) (low_digits k (n / 2)))
    go zero e ih = rw e (even k n e (ih (omega arith)))
    go (suc zero) e ih = rw e (odd k n e)
    go (suc (suc d)) e ih = absurd (omega arith)

-- ---- membership
has-zero : (n : ℕ) → n % 2 ≡ 1 → has n 0 ≡ true
unfolding has
has-zero n e = same_mk _ _ (omega arith)

no_zero : (n : ℕ) → n % 2 ≡ 0 → has n 0 ≡ false
unfolding has
no_zero n e = same_off _ _ (λ u. omega arith)

low_in : (k n : ℕ) → 0 < n → n < 2 ^ k → (has n (low_digits k n) ≡ true) × (low_digits k n < k)
low_in =
    by_half (λ (k n l : ℕ). (has n l ≡ true) × (l < k)) (λ k n e. (has-zero n e, omega arith))
    (λ k n e ih. (sym (has_half n _) ∙ ih.0, omega (arith, ih.1)))

low_least : (k n : ℕ) → 0 < n → n < 2 ^ k → (i : ℕ) → i < low_digits k n → has n i ≡ false
low_least =
    by_half (λ (k n l : ℕ). (i : ℕ) → i < l → has n i ≡ false) (λ k n e i b. absurd (omega arith))
    (λ k n e ih. even n e _ ih)
  where
    even : (n : ℕ) → n % 2 ≡ 0 → (l : ℕ) → ((i : ℕ) → i < l → has (n / 2) i ≡ false)
        → (i : ℕ) → i < suc l → has n i ≡ false
    even n e l ih zero b = no_zero n e
    even n e l ih (suc i) b = sym (has_half n i) ∙ ih i (omega arith)

-- ---- the number without its lowest digit
low_out : (k n : ℕ) → 0 < n → n < 2 ^ k → bit_and n (n - 1) + 2 ^ low_digits k n ≡ n
low_out =
    by_half (λ (k n l : ℕ). bit_and n (n - 1) + 2 ^ l ≡ n)
    (λ k n e.
    let a : (n - 1) / 2 ≡ n / 2 = omega arith in
    let b : (n - 1) % 2 ≡ 0 = omega arith in
    omega (arith, and_step n (n - 1), ap (bit_and (n / 2)) a ∙ and_self (n / 2), b, e))
    (λ k n e ih.
    let a : (n - 1) / 2 ≡ n / 2 - 1 = omega arith in
    omega (arith, and_step n (n - 1), ap (bit_and (n / 2)) a, ih, e, pow-suc 2 (low_digits k (n / 2))))

-- ---- of a set of processes
module _ (m : ℕ) (p : 0 < m) (h : m < 2 ^ 16) where
  pub lowest_in : has m (lowest_of m) ≡ true
  unfolding lowest_of
  lowest_in = (low_in 16 m p h).0

  pub lowest_lt : lowest_of m < 16
  unfolding lowest_of
  lowest_lt = (low_in 16 m p h).1

  -- none is below it
  pub lowest_least : (i : ℕ) → i < lowest_of m → has m i ≡ false
  unfolding lowest_of
  lowest_least = low_least 16 m p h

  -- the number that the code makes is the set without it
  pub rest_is : bit_and m (m - 1) ≡ remove_of m (lowest_of m)
  unfolding lowest_of
  rest_is = omega (arith, low_out 16 m p h, remove_number m (lowest_of m) lowest_in)

  pub rest_less : remove_of m (lowest_of m) < m
  rest_less = omega (arith, remove_number m (lowest_of m) lowest_in, pow_pos (lowest_of m))
