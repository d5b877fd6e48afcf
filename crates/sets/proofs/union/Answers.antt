-- `sets::union` returns the union: the definition is the code's own operation.
use borrow.Author.Rules.{rules}
use Rattle.sets.specs.Set.{union_of}
use Rattle.sets.proofs.union.Goals as goal

pub returns : goal.returns
unfolding union_of
returns c = search rules
