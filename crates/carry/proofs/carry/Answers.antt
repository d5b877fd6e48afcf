use Rattle.std.proofs.Common.{rules}
use Rattle.bench.specs.Carry.{carry_of}
use Rattle.carry.proofs.carry.Goals as goal

pub returns : goal.returns
unfolding carry_of
returns c = search rules
