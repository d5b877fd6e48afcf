use Rattle.std.proofs.Common.{◌≡◌, true}
use Rattle.sets.specs.Lists.{every}
use Rattle.calendar.specs.Calendar.{period_at, well_formed}
use Rattle.calendar.specs.PassLaws.{Marked}
use Rattle.calendar.proofs.mark_days.Given as goal

-- the records looked at are well formed, and their days are marked
abbrev pub invariant-loop-record : goal.invariant-loop-record
invariant-loop-record l =
    (every l.record-index (λ k. well_formed (period_at l.calendar k)) ≡ true)
    × Marked l.calendar l.monday l.record-index l.sites
