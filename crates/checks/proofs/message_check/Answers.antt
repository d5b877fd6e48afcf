-- By the first test that fails.
use Rattle.std.proofs.Common.{arith}
use Rattle.std.proofs.lemmas.Grind.{common_steps}
use Rattle.sets.specs.Truth.{same, select, check}
use Rattle.bench.specs.Calls.{answer_of}
use Rattle.checks.proofs.message_check.Goals as goal

pub returns-then-member : goal.returns-then-member
unfolding answer_of check select same
returns-then-member c = grind (arith, common_steps)

pub returns-then-not-member : goal.returns-then-not-member
unfolding answer_of check select same
returns-then-not-member c = grind (arith, common_steps)

pub returns : goal.returns
unfolding answer_of check select same
returns c = grind (arith, common_steps)
