-- The lines below `number` are written.
use Rattle.std.proofs.Common.{◌-◌}
use Rattle.std.specs.Io.KnownBytes.{Appends}
use Rattle.simulate.specs.LinesLaws.{accepted_text}
use Rattle.simulate.proofs.lines.write_accepted.Given as goal

abbrev pub invariant-loop-number : goal.invariant-loop-number
invariant-loop-number g l =
    Appends (g.W.Write.contents l.initial.out) (g.W.Write.contents l.out) (accepted_text l.first (l.number - l.first))
