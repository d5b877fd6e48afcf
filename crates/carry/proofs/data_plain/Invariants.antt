use mathlib.Core.Path.{◌≡◌}
use Prim.Native.Nat.{ℕ}
use lib.ListN.{get_or}
use mathlib.Core.Bool.{Bool, true}
use Rattle.sets.specs.Lists.{every}
use Rattle.sets.specs.Set.{has}
use Rattle.sets.specs.Truth.{less, select}
use Rattle.global_data.specs.declared.GlobalData.{GlobalData}
use Rattle.carry.proofs.data_plain.Given as goal

-- the test of entry k
abbrev pub plain_at : GlobalData → ℕ → Bool
plain_at g k = select (has g.present k) (less (get_or g.values k 0) 65536) true

abbrev pub invariant-loop-k : goal.invariant-loop-k
invariant-loop-k l = l.ok ≡ every l.k (plain_at l.g)
