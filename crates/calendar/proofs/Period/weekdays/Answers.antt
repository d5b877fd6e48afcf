-- The weekdays before the end of the period, without those before its beginning.
use Rattle.calendar.specs.PassLaws.{record_of}
use Rattle.calendar.proofs.PassLaws.{weekdays}
use Rattle.calendar.proofs.Period.weekdays.Goals as goal

pub returns : goal.returns
returns c =
    let a = c.args in
    rw (
      c.difference.ensures,
      c.all.ensures,
      c.all-2.ensures,
      c.weekdays_before-until.ensures,
      c.weekdays_before-from.ensures,
    )
    (weekdays a.monday (record_of a.self))
