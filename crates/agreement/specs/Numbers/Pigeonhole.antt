-- The pigeonhole: one member for each of r levels makes r members. By the levels:
-- the member of the top one is left out of the count.
use Rattle.std.specs.Prelude.{◌≡◌, ◌≢◌, Bool, true, not, ℕ, suc, ◌≤◌, ◌<◌}
use Rattle.std.proofs.Common.{ap, ◌∙◌, arith}
use Rattle.sets.specs.Truth.{◌and◌, same}
use Rattle.sets.specs.TruthLaws.{and_first, and_on_r, and_off_r, same_off, same_refl}
use Rattle.sets.specs.Lists.{count_to}
use Rattle.sets.specs.CountLaws.{count_more}

unfoldable without : (ℕ → Bool) → ℕ → ℕ → Bool
without p a x = p x and not (same x a)

without_there : (p : ℕ → Bool) (a x : ℕ) → x ≢ a → without p a x ≡ p x
unfolding without
without_there p a x h = and_on_r (p x) _ (ap not (same_off x a h))

without-less : (n : ℕ) (p : ℕ → Bool) (a : ℕ) → a < n → p a ≡ true → suc (count_to n (without p a)) ≤ count_to n p
unfolding without
without-less n p a d e =
    count_more n (without p a) p a (λ x w f. and_first (p x) _ f) d (and_off_r (p a) _ (ap not (same_refl a))) e

-- a tower of r levels has one number of each level
pub data Tower (Q : ℕ → ℕ → Type 0) : ℕ → Type 0 where
  ground : Tower Q 0
  storey : {l : ℕ} (x : ℕ) → Q l x → Tower Q l → Tower Q (suc l)

-- the pigeonhole: numbers that have one level each, and pass the test, are at least as many as the levels
pub pigeon : (n : ℕ) (Q : ℕ → ℕ → Type 0) → ((l m x : ℕ) → Q l x → Q m x → l ≡ m) → ((l x : ℕ) → Q l x → x < n)
    → {r : ℕ} → Tower Q r → (p : ℕ → Bool) → ((l x : ℕ) → l < r → Q l x → p x ≡ true) → r ≤ count_to n p
pigeon n Q one low ground p h = omega arith
pigeon n Q one low (storey {l = r} x q t) p h =
    omega (arith, pigeon n Q one low t (without p x) rest, without-less n p x (low r x q) (h r x (omega arith) q))
  where
    rest : (l y : ℕ) → l < r → Q l y → without p x y ≡ true
    rest l y d w = without_there p x y (λ e. omega (arith, one l r x (rw e at w) q)) ∙ h l y (omega arith) w
