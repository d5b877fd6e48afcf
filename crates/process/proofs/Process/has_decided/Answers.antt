-- `Process::has_decided` is the test of the byte.
use Rattle.sets.specs.Truth.{same}
use Rattle.process.specs.Steps.{has_decided}
use Rattle.process.proofs.Process.has_decided.Goals as goal

pub returns : goal.returns
unfolding has_decided same
returns c = cc
