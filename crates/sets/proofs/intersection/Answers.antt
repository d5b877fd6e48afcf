-- `sets::intersection` returns the intersection: the definition is the code's own operation.
use borrow.Author.Rules.{rules}
use Rattle.sets.specs.Set.{intersection_of}
use Rattle.sets.proofs.intersection.Goals as goal

pub returns : goal.returns
unfolding intersection_of
returns c = search rules
