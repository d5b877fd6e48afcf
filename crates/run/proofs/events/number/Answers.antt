-- By the message's case.
use Rattle.bench.specs.Refuse.{number_of}
use borrow.Author.Rules.{rules}
use Rattle.run.proofs.events.number.Goals as goal

pub returns-in-Estimate : goal.returns-in-Estimate
unfolding number_of
returns-in-Estimate c = search rules

pub returns-in-Decision : goal.returns-in-Decision
unfolding number_of
returns-in-Decision c = search rules
