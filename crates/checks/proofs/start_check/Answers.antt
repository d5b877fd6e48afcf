-- By the first test that fails.
use Rattle.std.proofs.Common.{arith}
use Rattle.std.proofs.lemmas.Grind.{common_steps}
use Rattle.sets.specs.Truth.{same, select, check}
use Rattle.bench.specs.Calls.{answer_of}
use Rattle.checks.proofs.start_check.Goals as goal

pub returns-then-member : goal.returns-then-member
unfolding answer_of check select same
returns-then-member c = grind (arith, common_steps)

pub returns-then-round-ne0 : goal.returns-then-round-ne0
unfolding answer_of check select same
returns-then-round-ne0 c = grind (arith, common_steps)

pub returns : goal.returns
unfolding answer_of check select same
returns c = grind (arith, common_steps)
