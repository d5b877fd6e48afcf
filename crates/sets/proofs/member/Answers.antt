-- `sets::member` tells whether i is in: both look at digit i.
use borrow.Author.Rules.{rules}
use Rattle.sets.specs.Set.{has}
use Rattle.sets.specs.Truth.{same}
use Rattle.sets.proofs.member.Goals as goal

pub returns : goal.returns
unfolding has same
returns c = search rules
