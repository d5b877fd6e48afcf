-- `sizes_open` makes the tests of the definition.
use mathlib.Core.Path.{refl}
use Rattle.sets.specs.Truth.{less}
use Rattle.sets.specs.Tests.{both_are}
use Rattle.bench.specs.Sound.{opens}
use Rattle.bench.proofs.open.sizes_open.Goals as goal

pub returns : goal.returns
unfolding opens less
returns c = both_are c.one_to.ensures refl
