-- `Process::adopt` is the step: where `takes_part` holds it is `decide`, and else nothing changes.
use mathlib.Core.Path.{sym, ◌∙◌}
use Rattle.sets.specs.Truth.{select}
use Rattle.process.specs.Steps.{adopt_of}
use Rattle.process.proofs.Process.adopt.Goals as goal

pub returns-then-takes_part : goal.returns-then-takes_part
unfolding adopt_of select
returns-then-takes_part c =
    rw (
      sym c.takes_part.ensures ∙ c.if-takes_part.true,
      c.decide.ensures,
      c.remove.ensures,
      c.owed.ensures,
    )

pub returns-else-takes_part : goal.returns-else-takes_part
unfolding adopt_of select
returns-else-takes_part c = rw (sym c.takes_part.ensures ∙ c.if-takes_part.false)
