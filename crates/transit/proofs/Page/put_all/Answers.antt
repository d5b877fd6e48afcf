use Rattle.std.proofs.Common.{arith}
use Rattle.bench.specs.TransitLaws.{sender_bytes, round_bytes}
use Rattle.bench.specs.TransitList.{transit_bytes}
use Rattle.bench.specs.State.{transit_at}
use Rattle.transit.proofs.PageLaws.{writes_start, writes_more, writes_all, room_more}
use Rattle.transit.proofs.Page.put_all.Goals as goal

pub loop-round-init : goal.loop-round-init
loop-round-init c = writes_start _ _

pub put_round-requires : goal.put_round-requires
unfolding transit_bytes transit_at round_bytes sender_bytes
put_round-requires c =
    let room = c.requires.2 in
    (c.requires.0, omega (arith, c.requires.1), room_more _ _ _ c.loop-round-test.true room c.loop-round.invariant)

pub loop-round-preserved : goal.loop-round-preserved
loop-round-preserved c = writes_more _ _ c.loop-round.invariant c.put_round.ensures

pub returns : goal.returns
unfolding transit_bytes transit_at round_bytes sender_bytes
returns c = writes_all _ _ _ c.loop-round-test.false c.loop-round.auto.round-end c.loop-round.invariant
