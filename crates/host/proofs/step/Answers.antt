-- `step_counted` gives both, by its definition.
use Rattle.std.proofs.Common.{ap}
use Rattle.one_record.specs.declared.Counted.{Counted}
use Rattle.one_record.specs.OneRecord.{counted_of}
use Rattle.host.proofs.step.Goals as goal

pub returns : goal.returns
unfolding counted_of
returns c =
    let e = c.step_counted-r.ensures in
    (ap (λ (r : Counted). r.stepped) e, ap (λ (r : Counted). r.counters) e)
