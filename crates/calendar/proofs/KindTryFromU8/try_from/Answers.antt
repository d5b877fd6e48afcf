-- A number outside 1 to 2.
use Rattle.std.proofs.Common.{refl, arith}
use Rattle.std.proofs.lemmas.Grind.{common_steps}
use Rattle.sets.specs.TruthLaws.{off_by, one_low, one_high}
use Rattle.calendar.proofs.KindTryFromU8.try_from.Goals as goal

pub returns-then-not-contains : goal.returns-then-not-contains
returns-then-not-contains c =
    let n = c.args.number in (
      refl,
      off_by _ (λ e.
          let low = one_low 2 n e in
          let high = one_high 2 n e in
          grind (arith, common_steps, c.if-not-contains.ensures.value, c.new.ensures)),
    )
