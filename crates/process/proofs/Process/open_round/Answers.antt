-- `Process::open_round` is the step: it writes the round and the outbox that the definition writes.
use Rattle.process.specs.Steps.{open_round_of}
use Rattle.process.proofs.Process.open_round.Goals as goal

pub returns : goal.returns
unfolding open_round_of
returns c = cc
