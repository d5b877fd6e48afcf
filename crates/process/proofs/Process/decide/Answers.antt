-- `Process::decide` is the step: it writes the fields that the definition writes.
use Rattle.process.specs.Steps.{decide_of}
use Rattle.process.proofs.Process.decide.Goals as goal

pub returns : goal.returns
unfolding decide_of
returns c = cc
