-- By the first test that fails.
use Rattle.std.proofs.Common.{arith}
use Rattle.std.proofs.lemmas.Grind.{common_steps}
use Rattle.sets.specs.Truth.{same, ◌and◌, select, check}
use Rattle.bench.specs.Calls.{answer_of}
use Rattle.checks.proofs.suspect_check.Goals as goal

pub returns-then-member : goal.returns-then-member
unfolding answer_of check select same ◌and◌
returns-then-member c = grind (arith, common_steps)

pub returns-then-member-2 : goal.returns-then-member-2
unfolding answer_of check select same ◌and◌
returns-then-member-2 c = grind (arith, common_steps)

pub returns : goal.returns
unfolding answer_of check select same ◌and◌
returns c = grind (arith, common_steps)
