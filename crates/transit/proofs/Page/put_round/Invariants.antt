use Rattle.sets.specs.Lists.{joined}
use Rattle.bench.specs.TransitLaws.{sender_bytes}
use Rattle.transit.specs.Pages.{Writes}
use Rattle.transit.proofs.Page.put_round.Given as goal

abbrev pub invariant-loop-from : goal.invariant-loop-from
invariant-loop-from l =
    Writes l.initial.self (joined l.from (sender_bytes l.bench.in_transit l.bench.n l.round)) l.self
