-- `sets::all` returns the processes below n: 2 ^ n fits 32 bits, and one less than it fits 16.
use mathlib.Core.Path.{◌≡◌, ap}
use Prim.Native.Nat.{ℕ, ◌-◌, ◌*◌, ◌%◌, ◌^◌, ◌≤◌}
use native.Mathlib.Omega.{arith}
use lib.Pow.{pow_pos, pow_mono}
use Rattle.sets.specs.Set.{all_of}
use Rattle.sets.specs.Laws.{shifted_one}
use Rattle.sets.proofs.all.Goals as goal

power : (n : ℕ) → n ≤ 16 → (1 * 2 ^ n) % 2 ^ 32 ≡ 2 ^ n
power n h = shifted_one 32 n (omega arith)

pub overflow_sub-result : goal.overflow_sub-result
overflow_sub-result c = omega (arith, power c.args.n c.requires, pow_pos c.args.n)

pub overflow_cast-result-2 : goal.overflow_cast-result-2
overflow_cast-result-2 c = omega (arith, power c.args.n c.requires, pow_mono {j = 16} c.requires)

pub returns : goal.returns
unfolding all_of
returns c = ap (λ (x : ℕ). x - 1) (power c.args.n c.requires)
