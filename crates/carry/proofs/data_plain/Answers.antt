-- `data_plain` tests the sixteen words. The loop's invariant: ok says whether the present entries below k are at most
-- 65,535.
use Rattle.std.proofs.Common.{◌≡◌, refl, ◌∙◌, add-one, arith}
use Rattle.std.proofs.Math.Bool.{and_comm}
use Rattle.sets.specs.Lists.{every}
use Rattle.sets.specs.Tests.{both_are}
use Rattle.bench.specs.Carry.{plain_data}
use Rattle.carry.proofs.data_plain.Goals as goal

pub loop-k-init : goal.loop-k-init
unfolding every
loop-k-init c = refl

pub loop-k-preserved : goal.loop-k-preserved
unfolding every
loop-k-preserved c =
    rw add-one
    (and_comm c.loop-k.ok c.word_plain-ok.result
    ∙ both_are (rw c.member.ensures at c.word_plain-ok.ensures) c.loop-k.invariant)

pub returns : goal.returns
unfolding plain_data
returns c = let e : c.loop-k.k ≡ 16 = omega arith in rw e at c.loop-k.invariant
