use Rattle.std.proofs.Common.{◌≡◌, false, ◌+◌, ◌∷◌, [], sym}
use Rattle.sets.specs.Set.{has}
use Rattle.bench.specs.State.{transit_at}
use Rattle.bench.specs.TransitList.{message_bytes}
use Rattle.bench.proofs.TransitLaws.{message_in, message_none}
use Rattle.transit.proofs.PageLaws.{writes_none}
use Rattle.transit.proofs.Page.put_message.Goals.{Then-member, Else-member}
use Rattle.transit.proofs.Page.put_message.Goals as goal

-- the receiver is in the set, or is not
there : (c : Then-member) → let a = c.args in
    message_bytes (transit_at a.bench.now a.from a.round) a.round a.from a.to
    ≡ (a.from + 1) ∷ (a.to + 1) ∷ a.round ∷ []
there c =
    let a = c.args in
    message_in _ a.round a.from a.to (rw (← c.receivers.ensures, ← c.from.ensures) (sym c.if-member.ensures))

not_there : (c : Else-member) → let a = c.args in
    message_bytes (transit_at a.bench.now a.from a.round) a.round a.from a.to ≡ []
not_there c =
    let a = c.args in
    let m : has (transit_at a.bench.now a.from a.round) a.to ≡ false =
    rw (← c.receivers.ensures, ← c.from.ensures) (sym c.if-member.ensures) in
    message_none _ a.round a.from a.to m

pub put-requires : goal.put-requires
put-requires c = rw (there (goal.at.put-requires c).Then-member) at c.requires.3

pub returns-then-member : goal.returns-then-member
returns-then-member c = rw (there (goal.at.returns-then-member c).Then-member) c.put.ensures

pub returns-else-member : goal.returns-else-member
returns-else-member c = rw (not_there c) (writes_none _)
