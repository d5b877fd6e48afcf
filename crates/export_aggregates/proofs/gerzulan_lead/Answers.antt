-- The words that are given are the leader's two numbers.
use Rattle.std.specs.Prelude.{ℕ}
use Rattle.std.proofs.Common.{rules, ◌∙◌}
use Rattle.aggregates.specs.declared.Leader.{Leader}
use Rattle.refusal.specs.HostLaws.{mapped}
use Rattle.export_aggregates.proofs.gerzulan_lead.Goals as goal

pub returns : goal.returns
returns c =
    let process : Leader → ℕ = λ l. l.process in
    let portions : Leader → ℕ = λ l. l.portions in
    let m = mapped portions c.lead-lead.result c.map.result c.args.value.now (search rules) in
    let k = mapped process c.lead-lead.result c.map-2.result c.args.process.now (search rules) in
    rw (← c.lead-lead.ensures)
    (c.store-2.ensures.number ∙ k.0, c.store-2.ensures.stored ∙ k.1, c.store.ensures.stored ∙ m.1)
