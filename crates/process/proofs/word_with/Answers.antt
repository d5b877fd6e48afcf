-- By whether it is put in.
use Rattle.sets.specs.Truth.{select}
use Rattle.process.proofs.word_with.Goals as goal

pub returns-then-put : goal.returns-then-put
unfolding select
returns-then-put c = rw c.if-put.true c.insert.ensures

pub returns-else-put : goal.returns-else-put
unfolding select
returns-else-put c = rw c.if-put.false
