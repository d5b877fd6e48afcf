use mathlib.Core.Path.{◌≡◌}
use Prim.Native.Nat.{ℕ}
use lib.ListN.{length}
use Rattle.sets.specs.MembersLaws.{Left}
use Rattle.global_data.specs.declared.GlobalData.{GlobalData}
use Rattle.global_data.specs.Rows.{Gives}
use Rattle.global_data.proofs.PassTurns.{Turns}
use Rattle.global_data.proofs.pass.Given as goal

abbrev pub invariant-loop-y : goal.invariant-loop-y
invariant-loop-y g l =
    (m : ℕ) × Left l.y-iterator m × (length l.values ≡ 16)
    × ((rows : ℕ → GlobalData) → Gives (goal.F-post g l.row) rows
    → Turns l.n l.members rows l.old m record { present = l.present; values = l.values } l.alike)
