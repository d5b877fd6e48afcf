-- `same_where` compares two words where that is asked, as the definition chooses.
use mathlib.Core.Path.{sym}
use Rattle.sets.specs.Truth.{same}
use Rattle.sets.specs.TruthLaws.{select_on, select_off}
use Rattle.global_data.proofs.same_where.Goals as goal

pub returns-then-asked : goal.returns-then-asked
unfolding same
returns-then-asked c = sym (select_on _ _ _ c.if-asked.true)

pub returns-else-asked : goal.returns-else-asked
returns-else-asked c = sym (select_off _ _ _ c.if-asked.false)
