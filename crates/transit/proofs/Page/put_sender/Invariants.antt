use Rattle.sets.specs.Lists.{joined}
use Rattle.bench.specs.State.{transit_at}
use Rattle.bench.specs.TransitList.{message_bytes}
use Rattle.transit.specs.Pages.{Writes}
use Rattle.transit.proofs.Page.put_sender.Given as goal

abbrev pub invariant-loop-to : goal.invariant-loop-to
invariant-loop-to l =
    let m = transit_at l.bench l.from l.round in
    Writes l.initial.self (joined l.to (message_bytes m l.round l.from)) l.self
