use Rattle.std.proofs.Common.{arith}
use Rattle.bench.specs.TransitLaws.{round_bytes}
use Rattle.transit.proofs.PageLaws.{writes_start, writes_more, writes_all, room_more}
use Rattle.transit.proofs.Page.put_round.Goals as goal

pub loop-from-init : goal.loop-from-init
loop-from-init c = writes_start _ _

pub put_sender-requires : goal.put_sender-requires
unfolding round_bytes
put_sender-requires c =
    let r = c.requires in
    (r.0, r.1, omega (arith, r.0), room_more _ _ _ c.loop-from-test.true r.2 c.loop-from.invariant)

pub loop-from-preserved : goal.loop-from-preserved
loop-from-preserved c = writes_more _ _ c.loop-from.invariant c.put_sender.ensures

pub returns : goal.returns
unfolding round_bytes
returns c = writes_all _ _ _ c.loop-from-test.false c.loop-from.auto.from-end c.loop-from.invariant
