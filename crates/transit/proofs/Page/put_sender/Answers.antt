use Rattle.std.proofs.Common.{arith}
use Rattle.bench.specs.State.{transit_at}
use Rattle.bench.specs.TransitLaws.{sender_bytes}
use Rattle.transit.proofs.PageLaws.{writes_start, writes_more, writes_all, room_more}
use Rattle.transit.proofs.Page.put_sender.Goals as goal

pub loop-to-init : goal.loop-to-init
loop-to-init c = writes_start _ _

pub put_message-requires : goal.put_message-requires
unfolding sender_bytes transit_at
put_message-requires c =
    let r = c.requires in
    (r.1, r.2, omega (arith, r.0), room_more _ _ _ c.loop-to-test.true r.3 c.loop-to.invariant)

pub loop-to-preserved : goal.loop-to-preserved
loop-to-preserved c = writes_more _ _ c.loop-to.invariant c.put_message.ensures

pub returns : goal.returns
unfolding sender_bytes transit_at
returns c = writes_all _ _ _ c.loop-to-test.false c.loop-to.auto.to-end c.loop-to.invariant
