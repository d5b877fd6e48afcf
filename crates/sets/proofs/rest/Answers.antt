-- `sets::rest` clears the lowest digit that is set: the law `rest_is`.
use borrow.Author.Rules.{rules}
use Rattle.sets.specs.LowestLaws.{rest_is}
use Rattle.sets.proofs.rest.Goals as goal

pub returns : goal.returns
returns c = rest_is c.args.m c.requires (search rules)
