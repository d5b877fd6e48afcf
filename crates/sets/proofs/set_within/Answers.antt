-- `set_within` compares with 2 ^ n, which the shift makes, since n is at most 16.
use mathlib.Core.Path.{ap}
use native.Mathlib.Omega.{arith}
use Rattle.sets.specs.Truth.{less}
use Rattle.sets.specs.Laws.{shifted_one}
use Rattle.sets.specs.Set.{within}
use Rattle.sets.proofs.set_within.Goals as goal

pub returns : goal.returns
unfolding within less
returns c = rw c.from.ensures (ap (less c.args.m) (shifted_one 32 c.args.n (omega arith)))
