-- The difference of portions, 16 bits, from a standing value, 32 bits, is exact: at zero, at both ends and between,
-- and it fits 64 signed bits.
use Rattle.std.specs.Prelude.{◌≡◌, refl, ℕ, zero, suc, ◌-◌, ◌^◌, ◌≤◌, ◌<◌, ℤ, pos, negsuc, ◌-ℤ◌}
use Rattle.std.proofs.Common.{◌∙◌, ap, ⊎_elim, arith, lt-ltb, le-ltb, SFits, to_z}
use Rattle.std.specs.Int.{w64}
use Rattle.sets.specs.TruthLaws.{le-or}

pub change_up : (v s : ℕ) → s ≤ v → pos v -ℤ pos s ≡ pos (v - s)
change_up v zero h = ap pos (omega arith)
change_up v (suc s) h = rw (le-ltb v (suc s) h)

pub change_down : (v s : ℕ) → v < s → pos v -ℤ pos s ≡ negsuc (s - suc v)
change_down v zero h = absurd (omega arith)
change_down v (suc s) h = rw (lt-ltb v (suc s) h)

pub change_none : (v : ℕ) → pos v -ℤ pos v ≡ pos 0
change_none v = change_up v v (omega arith) ∙ ap pos (omega arith)

pub change_least : pos 0 -ℤ pos 4294967295 ≡ negsuc 4294967294
change_least = refl

pub change_greatest : pos 65535 -ℤ pos 0 ≡ pos 65535
change_greatest = refl

-- what holds of the difference both ways
by_order : (P : ℤ → Type 0) (v s : ℕ) → (s ≤ v → P (pos (v - s))) → (v < s → P (negsuc (s - suc v)))
    → P (pos v -ℤ pos s)
by_order P v s f g = ⊎_elim (λ h. rw (change_up v s h) (f h)) (λ h. rw (change_down v s h) (g h)) (le-or s v)

-- how much of a number is above 0, and how much below
abbrev over_zero : ℤ → ℕ
over_zero (pos k) = k
over_zero (negsuc k) = 0

abbrev under_zero : ℤ → ℕ
under_zero (pos k) = 0
under_zero (negsuc k) = suc k

-- from -4,294,967,295 to 65,535
pub change_range : (v s : ℕ) → v < 2 ^ 16 → s < 2 ^ 32
    → (over_zero (pos v -ℤ pos s) ≤ 65535) × (under_zero (pos v -ℤ pos s) ≤ 4294967295)
change_range v s a b =
    by_order (λ z. (over_zero z ≤ 65535) × (under_zero z ≤ 4294967295)) v s (λ h. (omega arith, omega arith))
    (λ h. (omega arith, omega arith))

pub change_fits : (v s : ℕ) → v < 2 ^ 16 → s < 2 ^ 32 → SFits w64 (pos v -ℤ pos s)
change_fits v s a b = by_order (SFits w64) v s (λ h. omega arith) (λ h. omega arith)

-- the bits, at 64 signed bits, of a number of at most 32
pub read_signed : (v : ℕ) → v < 2 ^ 32 → to_z w64 v ≡ pos v
read_signed v h = rw (lt-ltb v (2 ^ 63) (omega arith))
