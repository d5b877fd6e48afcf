-- By the present bit.
use Rattle.sets.specs.Truth.{select}
use Rattle.global_data.specs.GlobalData.{entry_of}
use Rattle.text.proofs.processes.entry.Goals as goal

pub returns-then-member : goal.returns-then-member
unfolding entry_of select
returns-then-member c = rw (← c.member.ensures, c.if-member.true, c.from.ensures)

pub returns-else-member : goal.returns-else-member
unfolding entry_of select
returns-else-member c = rw (← c.member.ensures, c.if-member.false)
