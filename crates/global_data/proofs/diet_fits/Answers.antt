-- Of a value the test is the definition's, the other way round; an absent entry passes.
use Rattle.sets.specs.Tests.{not_above}
use Rattle.global_data.specs.GlobalData.{diet_fits}
use Rattle.global_data.proofs.diet_fits.Goals as goal

pub returns-in-None : goal.returns-in-None
unfolding diet_fits
returns-in-None c = rw c.in-None.is

pub returns-in-Some : goal.returns-in-Some
unfolding diet_fits
returns-in-Some c = rw c.in-Some.is (not_above _ _)
