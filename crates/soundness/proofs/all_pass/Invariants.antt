-- the flag and the elements from x on say together whether every one passes
use Rattle.std.proofs.Common.{◌≡◌, Bool}
use Rattle.std.specs.Fn.{FnReturnsAt}
use Rattle.bench.specs.EveryInLaws.{Tested}
use Rattle.soundness.proofs.all_pass.Given as goal

abbrev pub invariant-loop-x : goal.invariant-loop-x
invariant-loop-x g l =
    (p : _ → Bool) → ((x : _) (r : Bool) → FnReturnsAt g.F.Fn l.test x r → r ≡ p x) → Tested p l.xs l.x-index l.ok
