-- `GlobalData::nothing` makes global data whose entries are all absent, as the definition does.
use Rattle.global_data.specs.GlobalData.{nothing_of}
use Rattle.global_data.proofs.GlobalData.nothing.Goals as goal

pub returns : goal.returns
unfolding nothing_of
returns c = rw c.empty.ensures
