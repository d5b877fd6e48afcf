-- `sets::difference` keeps of a what is not in b: the law `and_not`.
use borrow.Author.Rules.{rules}
use Rattle.sets.specs.Laws.{and_not}
use Rattle.sets.proofs.difference.Goals as goal

pub returns : goal.returns
returns c = and_not c.args.a c.args.b (search rules) (search rules)
