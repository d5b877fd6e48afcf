-- `Process::keeps` is the test, joined by the same operators.
use Rattle.sets.specs.Truth.{◌and◌, ◌or◌, less, same}
use Rattle.process.specs.Steps.{keeps}
use Rattle.process.proofs.Process.keeps.Goals as goal

pub returns : goal.returns
unfolding keeps ◌and◌ ◌or◌ less same
returns c = rw (c.has_decided.ensures, c.member.ensures, c.from-at.ensures)
