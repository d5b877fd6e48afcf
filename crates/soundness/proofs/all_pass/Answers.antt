use Rattle.std.proofs.Common.{refl, ap, ◌∙◌, rules}
use Rattle.std.proofs.lemmas.Fn.{says_at}
use Rattle.bench.specs.EveryInLaws.{tested_none, tested_more, tested_all}
use Rattle.soundness.proofs.all_pass.Goals as goal

pub loop-x-init : goal.loop-x-init
loop-x-init g c = λ p h. tested_none p c.args.xs.now

pub loop-x-preserved : goal.loop-x-preserved
loop-x-preserved g c = λ p h.
    tested_more p c.x-item.result c.args.xs.now c.loop-x.x-index c.loop-x.ok c.test-ok.result (search rules)
    (h c.x-item.result c.test-ok.result (says_at g.F.Fn c.test-ok.ensures refl) ∙ ap p c.x-item.is)
    (c.loop-x.invariant p h)

pub returns : goal.returns
returns g c = λ p h.
    tested_all p c.args.xs.now c.loop-x.x-index c.loop-x.ok (search rules) (c.loop-x.invariant p h)
