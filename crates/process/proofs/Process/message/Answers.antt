-- `Process::message` is the step: a case for each answer of `has_decided`.
use mathlib.Core.Path.{sym, ◌∙◌}
use Rattle.sets.specs.Truth.{select}
use Rattle.process.specs.Steps.{message_of}
use Rattle.process.proofs.Process.message.Goals as goal

pub returns-then-has_decided : goal.returns-then-has_decided
unfolding message_of select
returns-then-has_decided c = rw (sym c.has_decided.ensures ∙ c.if-has_decided.true)

pub returns-else-has_decided : goal.returns-else-has_decided
unfolding message_of select
returns-else-has_decided c = rw (sym c.has_decided.ensures ∙ c.if-has_decided.false) c.from.ensures
