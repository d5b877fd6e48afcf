-- `Process::owed` is the definition, set by set.
use Rattle.process.specs.Steps.{owed_of}
use Rattle.process.proofs.Process.owed.Goals as goal

pub returns : goal.returns
unfolding owed_of
returns c = cc
