-- The lines of the first i records are written, and `bench` is the bench after them.
use Rattle.std.proofs.Common.{◌≡◌, ◌-◌, ◌≤◌}
use Rattle.std.specs.Io.KnownBytes.{Appends}
use Rattle.sets.specs.Lists.{joined}
use Rattle.bench.specs.OneByOne.{steps}
use Rattle.simulate.specs.Output.{records_in, line_at}
use Rattle.simulate.proofs.lines.write_lines.Given as goal

abbrev pub invariant-loop-i : goal.invariant-loop-i
invariant-loop-i g l =
    (l.total ≡ records_in l.chunk) × (l.i ≤ l.total) × (l.bench ≡ steps l.i l.initial.bench l.chunk)
    × Appends (g.W.Write.contents l.initial.out) (g.W.Write.contents l.out)
    (joined l.i (line_at l.initial.bench l.first l.chunk))

abbrev pub decreases-loop-i : goal.decreases-loop-i
decreases-loop-i g l = l.total - l.i
