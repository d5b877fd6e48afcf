-- Laws of `sum_to`: how a sum moves when its terms move, and a count as a sum of bits. By induction on n.
use Rattle.std.specs.Prelude.{◌≡◌, refl, ◌≢◌, ◌⊎◌, Bool, ℕ, zero, suc, ◌+◌, ◌*◌, ◌≤◌, ◌<◌}
use Rattle.std.proofs.Common.{ap, inl, inr, suc-mul, arith}
use Rattle.sets.specs.TruthLaws.{eq-or}
use Rattle.sets.specs.Lists.{count_to, sum_to}
use Rattle.sets.specs.Truth.{bit}

pub sum_le : (n : ℕ) (f g : ℕ → ℕ) → ((x : ℕ) → x < n → f x ≤ g x) → sum_to n f ≤ sum_to n g
unfolding sum_to
sum_le zero f g h = omega arith
sum_le (suc n) f g h = omega (arith, h n (omega arith), sum_le n f g (λ x d. h x (omega arith)))

-- a surplus at one index is one of the sum
pub sum_surplus : (n c a : ℕ) (f g : ℕ → ℕ) → a < n → f a + c ≤ g a → ((x : ℕ) → x < n → x ≢ a → f x ≤ g x)
    → sum_to n f + c ≤ sum_to n g
unfolding sum_to
sum_surplus zero c a f g d h o = absurd (omega arith)
sum_surplus (suc n) c a f g d h o = go (eq-or n a) (λ d. sum_surplus n c a f g d h (λ x l. o x (omega arith)))
  where
    go : (n ≡ a) ⊎ (n ≢ a) → (a < n → sum_to n f + c ≤ sum_to n g) → sum_to n f + f n + c ≤ sum_to n g + g n
    go (inl e) ih = omega (arith, ap f e, ap g e, sum_le n f g (λ x l. o x (omega arith) (omega arith)))
    go (inr ne) ih = omega (arith, o n (omega arith) ne, ih (omega arith))

-- so a strict increase at one index raises the sum
pub sum_lt : (n a : ℕ) (f g : ℕ → ℕ) → a < n → f a < g a → ((x : ℕ) → x < n → f x ≤ g x) → suc (sum_to n f) ≤ sum_to n g
sum_lt n a f g d h o = omega (arith, sum_surplus n 1 a f g d (omega arith) (λ x l ne. o x l))

pub sum_same : (n c : ℕ) → sum_to n (λ x. c) ≡ n * c
unfolding sum_to
sum_same zero c = omega arith
sum_same (suc n) c = omega (arith, sum_same n c, suc-mul n c)

pub sum_bound : (n c : ℕ) (f : ℕ → ℕ) → ((x : ℕ) → x < n → f x ≤ c) → sum_to n f ≤ n * c
sum_bound n c f h = omega (arith, sum_le n f (λ x. c) h, sum_same n c)

pub sum_both : (n : ℕ) (f g : ℕ → ℕ) → sum_to n (λ x. f x + g x) ≡ sum_to n f + sum_to n g
unfolding sum_to
sum_both zero f g = omega arith
sum_both (suc n) f g = omega (arith, sum_both n f g)

-- a count is a sum of bits
pub count_sum : (n : ℕ) (p : ℕ → Bool) → count_to n p ≡ sum_to n (λ x. bit (p x))
unfolding sum_to count_to
count_sum zero p = refl
count_sum (suc n) p = omega (arith, count_sum n p)
