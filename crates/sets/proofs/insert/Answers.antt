-- `sets::insert` puts i in: the shift loses no digit, since i is below 16.
use mathlib.Core.Path.{ap}
use native.Mathlib.Omega.{arith}
use lib.Bits.{bit_or}
use Rattle.sets.specs.Set.{insert_of}
use Rattle.sets.specs.Laws.{shifted_one}
use Rattle.sets.proofs.insert.Goals as goal

pub returns : goal.returns
unfolding insert_of
returns c = ap (bit_or c.args.m) (shifted_one 16 c.args.i (omega arith))
