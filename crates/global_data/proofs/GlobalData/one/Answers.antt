-- `GlobalData::one` makes entry i alone, as the definition does.
use Rattle.global_data.specs.GlobalData.{one_of}
use Rattle.global_data.proofs.GlobalData.one.Goals as goal

pub returns : goal.returns
unfolding one_of
returns c = rw (c.insert.ensures, c.empty.ensures)
