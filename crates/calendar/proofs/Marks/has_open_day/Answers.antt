-- The difference is not empty.
use Rattle.sets.specs.Truth.{same}
use Rattle.calendar.specs.PassLaws.{some_day}
use Rattle.calendar.proofs.Marks.has_open_day.Goals as goal

pub returns : goal.returns
unfolding some_day same
returns c = rw c.difference.ensures
