-- `Process::start` is the step: the sets and the estimate that it writes are those of the definition,
-- and `open_round` opens round 1.
use Rattle.process.specs.Steps.{start_of}
use Rattle.process.proofs.Process.start.Goals as goal

pub returns : goal.returns
unfolding start_of
returns c =
    rw (c.open_round.ensures, c.one-self.ensures, c.difference.ensures, c.all-all.ensures)
