-- `sets::size` returns how many members there are: both count the ones.
use borrow.Author.Rules.{rules}
use Rattle.sets.specs.Set.{size_of}
use Rattle.sets.proofs.size.Goals as goal

pub returns : goal.returns
unfolding size_of
returns c = search rules
