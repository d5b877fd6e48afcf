-- `Process::next` is the definition: the current set where it meets those arrived.
use Rattle.process.specs.Steps.{next_of}
use Rattle.process.proofs.Process.next.Goals as goal

pub returns : goal.returns
unfolding next_of
returns c = cc
