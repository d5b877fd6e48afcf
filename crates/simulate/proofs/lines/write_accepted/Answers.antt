-- One line more for each turn.
use Rattle.std.proofs.Common.{suc, ◌≡◌, ◌+◌, ◌-◌, arith}
use Rattle.std.proofs.KnownBytes.{Appends-nil, Appends-trans}
use Rattle.sets.specs.Lists.{joined}
use Rattle.simulate.specs.LinesLaws.{accepted_text}
use Rattle.simulate.proofs.lines.write_accepted.Goals as goal

pub loop-number-init : goal.loop-number-init
unfolding accepted_text joined
loop-number-init g c =
    let z : c.args.first - c.args.first ≡ 0 = omega arith in
    rw z (Appends-nil _)

pub loop-number-preserved : goal.loop-number-preserved
unfolding accepted_text joined
loop-number-preserved g c =
    let l = c.loop-number in
    let s : l.number + 1 - c.args.first ≡ suc (l.number - c.args.first) = omega arith in
    let p : c.args.first + (l.number - c.args.first) ≡ l.number = omega arith in
    rw (s, p) (Appends-trans _ _ _ _ _ l.invariant c.in_ok-write.ensures.bytes)
