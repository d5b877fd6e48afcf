-- `Process::due` is the test: nobody of the current set is outside those arrived or suspected.
use Rattle.sets.specs.Truth.{same}
use Rattle.process.specs.Steps.{due_of}
use Rattle.process.proofs.Process.due.Goals as goal

pub returns : goal.returns
unfolding due_of same
returns c = cc
