-- `Process::takes_part` is the test, joined by the same operators.
use Rattle.sets.specs.Truth.{◌and◌, less}
use Rattle.process.specs.Steps.{takes_part}
use Rattle.process.proofs.Process.takes_part.Goals as goal

pub returns : goal.returns
unfolding takes_part ◌and◌ less
returns c = rw c.has_decided.ensures
