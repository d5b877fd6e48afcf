-- `Process::arrived` is the definition: the word of this round, with `a` put in.
use Rattle.process.specs.Steps.{arrived_of}
use Rattle.process.proofs.Process.arrived.Goals as goal

pub returns : goal.returns
unfolding arrived_of
returns c = rw (← c.from.ensures) c.insert.ensures
