-- The format writes both numbers.
use Rattle.std.proofs.Common.{arith}
use Rattle.text.specs.TextLaws.{value_printed}
use Rattle.text.proofs.processes.ValueTextDisplay.fmt.Goals as goal

pub returns-clause-writes : goal.returns-clause-writes
returns-clause-writes g c =
    rw (value_printed c.args.self.now.0 (omega arith) (omega arith)) c.write.ensures.writes
