-- `Process::idle` is the definition, field by field.
use Rattle.process.specs.Steps.{idle_of}
use Rattle.process.proofs.Process.idle.Goals as goal

pub returns : goal.returns
unfolding idle_of
returns c = rw c.nothing.ensures
