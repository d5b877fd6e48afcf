-- Laws of `count_to`: from below, of equal tests, of weaker ones, of one member more. By induction on n.
use Rattle.std.specs.Prelude.{◌≡◌, refl, ◌≢◌, ◌⊎◌, Bool, true, false, ℕ, zero, suc, ◌+◌, ◌≤◌, ◌<◌}
use Rattle.std.proofs.Common.{sym, ap, ◌∙◌, inl, inr, arith}
use Rattle.sets.specs.Truth.{bit}
use Rattle.sets.specs.TruthLaws.{eq-or}
use Rattle.sets.specs.Lists.{count_to}

-- the same from below: the first number, and the others moved down by one
pub count_first : (n : ℕ) (p : ℕ → Bool) → count_to (suc n) p ≡ bit (p 0) + count_to n (λ i. p (suc i))
unfolding count_to
count_first zero p = refl
count_first (suc n) p = omega (arith, count_first n p)

pub count_cong : (n : ℕ) (p q : ℕ → Bool) → ((i : ℕ) → i < n → p i ≡ q i) → count_to n p ≡ count_to n q
unfolding count_to
count_cong zero p q h = refl
count_cong (suc n) p q h =
    omega (arith, ap bit (h n (omega arith)), count_cong n p q (λ i l. h i (omega arith)))

pub bit_le : (b : Bool) → bit b ≤ 1
unfolding bit
bit_le true = omega arith
bit_le false = omega arith

pub bit_mono : (a b : Bool) → (a ≡ true → b ≡ true) → bit a ≤ bit b
unfolding bit
bit_mono true b h = omega (arith, ap bit (h refl))
bit_mono false b h = omega arith

pub count_mono : (n : ℕ) (p q : ℕ → Bool) → ((i : ℕ) → i < n → p i ≡ true → q i ≡ true) → count_to n p ≤ count_to n q
unfolding count_to
count_mono zero p q h = omega arith
count_mono (suc n) p q h =
    omega (arith, bit_mono (p n) (q n) (h n (omega arith)), count_mono n p q (λ i l. h i (omega arith)))

pub count_none : (n : ℕ) (p : ℕ → Bool) → ((x : ℕ) → p x ≡ false) → count_to n p ≡ 0
unfolding count_to bit
count_none zero p h = refl
count_none (suc n) p h = omega (arith, ap bit (h n), count_none n p h)

-- a weaker test that one number more passes
pub count_more : (n : ℕ) (p q : ℕ → Bool) (a : ℕ) → ((x : ℕ) → x < n → p x ≡ true → q x ≡ true) → a < n → p a ≡ false
    → q a ≡ true → suc (count_to n p) ≤ count_to n q
unfolding count_to bit
count_more zero p q a h d e f = absurd (omega arith)
count_more (suc n) p q a h d e f = go (eq-or a n) (λ w. count_more n p q a (λ x v. h x (omega arith)) w e f)
  where
    go : (a ≡ n) ⊎ (a ≢ n) → (a < n → suc (count_to n p) ≤ count_to n q) → suc (count_to (suc n) p) ≤ count_to (suc n) q
    go (inl w) ih =
        omega
        (arith, ap bit (ap p (sym w) ∙ e), ap bit (ap q (sym w) ∙ f), count_mono n p q (λ x v. h x (omega arith)))
    go (inr w) ih = omega (arith, bit_mono (p n) (q n) (h n (omega arith)), ih (omega arith))

-- a test that differs at one number counts at most one more
pub count_one : (n : ℕ) (p q : ℕ → Bool) (a : ℕ) → ((x : ℕ) → x ≢ a → q x ≡ p x) → count_to n q ≤ suc (count_to n p)
unfolding count_to
count_one zero p q a h = omega arith
count_one (suc n) p q a h = go (eq-or n a) (count_one n p q a h)
  where
    go : (n ≡ a) ⊎ (n ≢ a) → count_to n q ≤ suc (count_to n p) → count_to (suc n) q ≤ suc (count_to (suc n) p)
    go (inl e) ih = omega (arith, bit_le (q n), count_cong n q p (λ x d. h x (omega arith)))
    go (inr ne) ih = omega (arith, ap bit (h n ne))
