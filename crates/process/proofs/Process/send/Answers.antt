-- `Process::send` is the step: only the outbox changes, by `remove`.
use Rattle.process.specs.Steps.{send_of}
use Rattle.process.proofs.Process.send.Goals as goal

pub returns : goal.returns
unfolding send_of
returns c = cc
