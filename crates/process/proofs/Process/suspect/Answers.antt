-- `Process::suspect` is the step: only `suspected` changes, by `insert`.
use Rattle.process.specs.Steps.{suspect_of}
use Rattle.process.proofs.Process.suspect.Goals as goal

pub returns : goal.returns
unfolding suspect_of
returns c = cc
