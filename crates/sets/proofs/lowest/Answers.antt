-- `sets::lowest` counts the digits 0 below the lowest member, as the definition does.
use native.Mathlib.Omega.{arith}
use lib.Count.{trailing_le}
use borrow.Author.Rules.{rules}
use Rattle.sets.specs.Set.{lowest_of}
use Rattle.sets.specs.LowestLaws.{lowest_lt}
use Rattle.sets.proofs.lowest.Goals as goal

pub overflow_cast-result : goal.overflow_cast-result
overflow_cast-result c = omega (arith, trailing_le 16 c.args.m)

pub returns : goal.returns
unfolding lowest_of
returns c = (search rules, lowest_lt c.args.m c.requires (search rules))
