-- The word that is given is the bit.
use Rattle.std.proofs.Common.{rules, ◌∙◌}
use Rattle.sets.specs.Truth.{bit}
use Rattle.refusal.specs.HostLaws.{mapped}
use Rattle.export_aggregates.proofs.gerzulan_go.Goals as goal

pub returns : goal.returns
unfolding bit
returns c =
    let m = mapped bit c.go.result c.map.result c.args.go.now (search rules) in
    rw (← c.go.ensures) (c.store.ensures.number ∙ m.0, c.store.ensures.stored ∙ m.1)
