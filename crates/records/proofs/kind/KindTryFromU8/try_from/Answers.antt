-- A byte that is none of 1 to 6 is no number from 1 to 6.
use Rattle.std.proofs.Common.{refl, arith}
use Rattle.sets.specs.TruthLaws.{off_by, one_low, one_high}
use Rattle.records.proofs.kind.KindTryFromU8.try_from.Goals as goal

pub returns-in_default : goal.returns-in_default
returns-in_default c = (refl, off_by _ (λ e. omega (arith, one_low 6 _ e, one_high 6 _ e)))
