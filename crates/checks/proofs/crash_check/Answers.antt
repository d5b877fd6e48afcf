-- By the first test that fails.
use Rattle.std.proofs.Common.{arith}
use Rattle.std.proofs.lemmas.Grind.{common_steps}
use Rattle.sets.specs.Truth.{same, less, select, check}
use Rattle.bench.specs.Calls.{answer_of}
use Rattle.checks.proofs.crash_check.Goals as goal

pub returns-then-member : goal.returns-then-member
unfolding answer_of check select same less
returns-then-member c = grind (arith, common_steps)

pub returns-then-t-size : goal.returns-then-t-size
unfolding answer_of check select same less
returns-then-t-size c = grind (arith, common_steps)

pub returns : goal.returns
unfolding answer_of check select same less
returns c = grind (arith, common_steps)
