use Rattle.bench.specs.State.{transit_at}
use Rattle.transit.proofs.receivers.Goals as goal

pub returns : goal.returns
unfolding transit_at
returns c = rw (c.from.ensures, c.from-2.ensures)
