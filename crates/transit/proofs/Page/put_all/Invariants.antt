use Rattle.sets.specs.Lists.{joined}
use Rattle.bench.specs.TransitLaws.{round_bytes}
use Rattle.transit.specs.Pages.{Writes}
use Rattle.transit.proofs.Page.put_all.Given as goal

abbrev pub invariant-loop-round : goal.invariant-loop-round
invariant-loop-round l = Writes l.initial.self (joined l.round (round_bytes l.bench.in_transit l.bench.n)) l.self
